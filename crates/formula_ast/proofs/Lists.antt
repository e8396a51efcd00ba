-- Facts on lists.
use Rattle.std.proofs.Common.{◌≡◌, ℕ, zero, suc, ◌+◌, List, [], ◌∷◌, ◌++◌, take, Option, Some, None, ap, add-one}
use Rattle.std.specs.Prelude.{slice_get}

or_else : {A : Type 0} → A → Option A → A
or_else d None = d
or_else d (Some x) = x

some_is : {A : Type 0} (x y : A) → ◌≡◌ {A = Option A} (Some x) (Some y) → x ≡ y
unfolding or_else
some_is {A = A} x y e = ap (or_else x) e

more : {A : Type 0} (xs : List A) (i : ℕ) (x : A) → slice_get xs i ≡ Some x → take (suc i) xs ≡ take i xs ++ x ∷ []
more [] i x got = absurd (cc got)
more (y ∷ xs) zero x got = ap (λ z. z ∷ []) (some_is y x got)
more (y ∷ xs) (suc i) x got = ap (λ l. y ∷ l) (more xs i x got)

-- one more item of a list
pub take_more_got : {A : Type 0} (xs : List A) (i : ℕ) (x : A) → slice_get xs i ≡ Some x → take (i + 1) xs ≡ take i xs ++ x ∷ []
take_more_got xs i x got = rw add-one (more xs i x got)
