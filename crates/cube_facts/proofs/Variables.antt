-- The variables of atoms, and whether a number stands in a list.
use Rattle.std.specs.Prelude.{Contains, slice_index, eqb, cond}
use Rattle.std.proofs.Common.{ℕ, suc, ◌≡◌, ◌<◌, Bool, true, false, List, [], ◌∷◌, map, length, refl, subst, ◌⊎◌, inl, inr, arith}
use Rattle.std.proofs.lemmas.Bool.Decides.{eqb_tells}
use Rattle.tree_facts.proofs.Members.{contains_first, contains_later, contains_cases}
use Rattle.tree_facts.proofs.Renumbering.{contains_image}
use Rattle.flat_form.specs.declared.atom.Flat.{Flat}
use Rattle.flat_form.specs.declared.atom.Flat.TheVariants.{VarVar, VarTerm, Finite}
use Rattle.flat_form.specs.Parts.{variables_of, renumbered}
use Rattle.flat_form.specs.Solved.{variable_of}

-- the variable that an atom stands for is one of its own
pub own_variable : (a : Flat) → Contains (variables_of a) (variable_of a)
own_variable (VarVar u h) = contains_first u (h ∷ [])
own_variable (VarTerm u s xs) = contains_first u xs
own_variable (Finite u) = contains_first u []

-- an atom under new numbers has the new numbers of its variables
pub variable_renumbered : (f : ℕ → ℕ) (a : Flat) → variable_of (renumbered f a) ≡ f (variable_of a)
variable_renumbered f (VarVar u h) = refl
variable_renumbered f (VarTerm u s xs) = refl
variable_renumbered f (Finite u) = refl

pub variables_renumbered : (f : ℕ → ℕ) (a : Flat) → variables_of (renumbered f a) ≡ map f (variables_of a)
variables_renumbered f (VarVar u h) = refl
variables_renumbered f (VarTerm u s xs) = refl
variables_renumbered f (Finite u) = refl

-- a variable under new numbers, and the one that it was
pub was_variable : (f : ℕ → ℕ) (a : Flat) (v : ℕ) → Contains (variables_of (renumbered f a)) v → (w : ℕ) × Contains (variables_of a) w × (f w ≡ v)
was_variable f a v i = contains_image f (variables_of a) v (subst (λ (xs : List ℕ). Contains xs v) (variables_renumbered f a) i)

-- the place of an argument
pub argument_at : (xs : List ℕ) (v : ℕ) → Contains xs v → (j : ℕ) × (j < length xs) × (slice_index xs j ≡ v)
argument_at [] v i = absurd (omega (arith, i.1))
argument_at (x ∷ xs) v i = elim (contains_cases x v xs i) [
  | inl e ↦ (0, omega arith, e)
  | inr more ↦ let (j, w, e) = argument_at xs v more in (suc j, omega (arith, w), e)
]

-- whether a number stands in the list
abbrev pub stands_in : List ℕ → ℕ → Bool
stands_in [] v = false
stands_in (u ∷ rest) v = cond (eqb u v) true (stands_in rest v)

pub stands_tells : (xs : List ℕ) (v : ℕ) → ((stands_in xs v ≡ true) × Contains xs v) ⊎ ((stands_in xs v ≡ false) × (¬ Contains xs v))
stands_tells [] v = inr (refl, λ i. omega (arith, i.1))
stands_tells (u ∷ rest) v = elim (eqb_tells u v) [
  | inl q ↦ inl (rw q.0 refl, subst (λ (z : ℕ). Contains (u ∷ rest) z) q.1 (contains_first u rest))
  | inr q ↦ elim (stands_tells rest v) [
    | inl h ↦ inl (rw q.0 h.0, contains_later u v rest h.1)
    | inr h ↦ inr (rw q.0 h.0, λ i. elim (contains_cases u v rest i) [ inl e ↦ q.1 e | inr more ↦ h.1 more ])
  ]
]
