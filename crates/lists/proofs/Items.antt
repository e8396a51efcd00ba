-- The items over which a loop goes, as the list has them.
use Rattle.std.proofs.Common.{◌≡◌, ℕ, ◌<◌, ◌≤◌, List, length, get_or, take, refl, ap, ◌∙◌, subst, arith, Some}
use Rattle.std.specs.Prelude.{slice_get}
use Rattle.std.proofs.lemmas.List.{take_all}
use Rattle.std.proofs.lemmas.Option.{slice_get_read}

-- the item at hand stands in the list
pub item_stands : {A : Type 0} (items xs : List A) (i : ℕ) (x : A) → items ≡ xs → i < length items → x ≡ get_or items i x → slice_get xs i ≡ Some x
item_stands items xs i x same within is = subst (λ z. slice_get z i ≡ Some x) same (slice_get_read items (length items) i x refl within is)

-- behind the last item, what was gone through is the whole list
pub all_items : {A : Type 0} (items xs : List A) (i : ℕ) → items ≡ xs → length items ≤ i → take i xs ≡ xs
all_items items xs i same past = subst (λ z. take i z ≡ z) same (take_all i items past)
