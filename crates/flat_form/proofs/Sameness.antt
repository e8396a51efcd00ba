-- Equal lists, told item by item.
use Rattle.std.proofs.Common.{ℕ, ◌≡◌, ◌+◌, List, [], ◌∷◌, ◌++◌, take, sym, ap, ◌∙◌, Some}
use Rattle.std.specs.Prelude.{slice_get}
use Rattle.std.proofs.lemmas.List.{take_more}
use Rattle.std.proofs.lemmas.Option.{slice_get_within, get_or_from_slice_get}

front_more : {T : Type 0} (a : List T) (i : ℕ) (x : T) → slice_get a i ≡ Some x → take (i + 1) a ≡ take i a ++ x ∷ []
front_more a i x at = take_more a i x (slice_get_within a i x at) ∙ ap (λ z. take i a ++ z ∷ []) (get_or_from_slice_get a i x x at)

-- lists that are equal up to a place are equal one item further
pub same_next : {T : Type 0} (a b : List T) (i : ℕ) (x y : T) → slice_get a i ≡ Some x → slice_get b i ≡ Some y → x ≡ y → take i a ≡ take i b
    → take (i + 1) a ≡ take (i + 1) b
same_next a b i x y ea eb e same =
    front_more a i x ea ∙ ap (λ z. z ++ x ∷ []) same ∙ ap (λ z. take i b ++ z ∷ []) e ∙ sym (front_more b i y eb)
