-- Walks over lists: what is left at an item and behind the last one.
use Rattle.std.specs.Prelude.{Contains}
use Rattle.std.proofs.Common.{ℕ, ◌≡◌, ◌+◌, ◌<◌, ◌≤◌, List, [], ◌∷◌, length, get_or, drop, sym, ap, ◌∙◌, subst}
use Rattle.std.proofs.lemmas.List.{drop_more, drop_all}

pub at_item : {A : Type 0} (items xs : List A) (i : ℕ) (x : A) → items ≡ xs → i < length items → x ≡ get_or items i x → drop i xs ≡ x ∷ drop (i + 1) xs
at_item {A} items xs i x same within is =
    subst (λ (z : List A). drop i z ≡ x ∷ drop (i + 1) z) same (drop_more items i x within ∙ ap (λ (y : A). y ∷ drop (i + 1) items) (sym is))

pub behind_last : {A : Type 0} (items xs : List A) (i : ℕ) → items ≡ xs → length items ≤ i → drop i xs ≡ []
behind_last {A} items xs i same past = subst (λ (z : List A). drop i z ≡ []) same (drop_all i items past)

pub item_in : {A : Type 0} (items xs : List A) (i : ℕ) (x : A) → items ≡ xs → i < length items → x ≡ get_or items i x → Contains xs x
item_in {A} items xs i x same within is = subst (λ (z : List A). Contains z x) same (i, within, sym is)
