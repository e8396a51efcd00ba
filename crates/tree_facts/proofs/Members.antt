-- Elements of lists, and the variables of an equation.
use Rattle.std.proofs.Common.{ℕ, zero, suc, ◌≡◌, ◌<◌, List, ◌∷◌, length, refl, arith, inl, inr, ◌⊎◌}
use Rattle.std.specs.Prelude.{Contains, slice_index}
use Rattle.std.proofs.lemmas.List.Elements.{Contains-get_or}

pub contains_first : {A : Type 0} (x : A) (xs : List A) → Contains (x ∷ xs) x
contains_first x xs = (0, omega arith, refl)

pub contains_later : {A : Type 0} (x y : A) (xs : List A) → Contains xs y → Contains (x ∷ xs) y
contains_later x y xs (k, w, e) = (suc k, omega arith, e)

pub contains_cases : {A : Type 0} (x y : A) (xs : List A) → Contains (x ∷ xs) y → (x ≡ y) ⊎ Contains xs y
contains_cases x y xs (zero, w, e) = inl e
contains_cases x y xs (suc k, w, e) = inr (k, omega arith, e)

-- each argument is a variable of its equation
pub argument_occurs : (u : ℕ) (xs : List ℕ) (i : ℕ) → i < length xs → Contains (u ∷ xs) (slice_index xs i)
argument_occurs u xs i w = contains_later u (slice_index xs i) xs (Contains-get_or xs i 0 w)
