-- The equation that a variable is left of, and a bound on all variables.
use Rattle.std.proofs.Common.{ℕ, suc, ◌≡◌, ◌<◌, ◌≤◌, List, [], ◌∷◌, refl, ap, ◌∙◌, arith, Some, None, inl, inr, cond, eqb}
use Rattle.std.specs.Prelude.{Option, Contains, sum_by}
use Rattle.std.proofs.lemmas.Bool.Decides.{eqb_tells}
use Rattle.std.proofs.lemmas.List.Sums.{get_or-le-sum_by}
use Rattle.tree_facts.specs.Equations.{Equation, left_of, variables_of, IsParameter, HasDistinctLefts}
use Rattle.tree_facts.proofs.Members.{contains_first, contains_later, contains_cases}

-- the first equation with this variable on the left
abbrev pub equation_of : List Equation → ℕ → Option Equation
equation_of [] v = None
equation_of (q ∷ rest) v = cond (eqb (left_of q) v) (Some q) (equation_of rest v)

abbrev pub IsEquationOf : List Equation → ℕ → Option Equation → Type 0
IsEquationOf system v None = IsParameter system v
IsEquationOf system v (Some q) = Contains system q × (left_of q ≡ v)

later : (q : Equation) (rest : List Equation) (v : ℕ) (o : Option Equation) → ¬ (left_of q ≡ v) → IsEquationOf rest v o → IsEquationOf (q ∷ rest) v o
later q rest v None other found = λ p inside. elim (contains_cases q p rest inside) [
  | inl e ↦ λ h. other (ap left_of e ∙ h)
  | inr more ↦ found p more
]
later q rest v (Some p) other found = (contains_later q p rest found.0, found.1)

pub found : (system : List Equation) (v : ℕ) → IsEquationOf system v (equation_of system v)
found [] v = λ q inside. absurd (omega (arith, inside.1))
found (q ∷ rest) v = elim (eqb_tells (left_of q) v) [
  | inl h ↦ rw h.0 (contains_first q rest, h.1)
  | inr h ↦ rw h.0 (later q rest v (equation_of rest v) h.1 (found rest v))
]

only : (system : List Equation) → HasDistinctLefts system → (q : Equation) → Contains system q
    → (o : Option Equation) → IsEquationOf system (left_of q) o → o ≡ Some q
only system distinct q inside None none = absurd (none q inside refl)
only system distinct q inside (Some p) found = ap Some (distinct.one_each p q found.0 inside found.1)

-- where the left sides are distinct, each equation is that of its left side
pub equation_found : (system : List Equation) → HasDistinctLefts system → (q : Equation) → Contains system q → equation_of system (left_of q) ≡ Some q
equation_found system distinct q inside = only system distinct q inside (equation_of system (left_of q)) (found system (left_of q))

-- a number above all variables
abbrev pub above : List Equation → ℕ
above system = suc (sum_by (λ q. sum_by (λ v. v) (variables_of q)) system)

element_le_sum : {A : Type 0} (f : A → ℕ) (xs : List A) (x : A) → Contains xs x → f x ≤ sum_by f xs
element_le_sum f xs x (k, w, e) = rw (ap f e) at (get_or-le-sum_by f xs k x w)

pub variable_below : (system : List Equation) (q : Equation) → Contains system q → (v : ℕ) → Contains (variables_of q) v → v < above system
variable_below system q inside v occurs =
    omega (arith, element_le_sum (λ q. sum_by (λ v. v) (variables_of q)) system q inside, element_le_sum (λ v. v) (variables_of q) v occurs)
