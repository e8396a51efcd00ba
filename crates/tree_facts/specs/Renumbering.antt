-- New numbers for the variables of equations.
use Rattle.std.specs.Prelude.{ℕ, List, map, ◌↔◌}
use Rattle.tree_model.specs.Signatures.{Signature}
use Rattle.tree_model.specs.Valuations.{Valuation}
use Rattle.tree_facts.specs.Equations.{Equation, equals_variable, equals_term, EquationHolds, Solves}

-- the equation with the number f v in place of each variable v
abbrev pub renumbered : (ℕ → ℕ) → Equation → Equation
renumbered f (equals_variable u r) = equals_variable (f u) (f r)
renumbered f (equals_term u symbol arguments) = equals_term (f u) symbol (map f arguments)

-- the renumbered equation means what the equation does where each variable has the value of its new number
abbrev pub RenumberedHolds : Type 0
RenumberedHolds =
    (σ : Signature) (e : Valuation σ) (f : ℕ → ℕ) (q : Equation) → EquationHolds e (renumbered f q) ↔ EquationHolds (λ v. e (f v)) q

-- and so for all equations of a system
abbrev pub RenumberedSolves : Type 0
RenumberedSolves =
    (σ : Signature) (e : Valuation σ) (f : ℕ → ℕ) (system : List Equation)
    → Solves e (map (renumbered f) system) ↔ Solves (λ v. e (f v)) system
