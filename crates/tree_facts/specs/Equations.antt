-- Systems of flat equations over variables, which are numbers, and their solutions among the rational trees.
use Rattle.std.specs.Prelude.{◌≡◌, ℕ, ◌<◌, List, [], ◌∷◌, length, slice_index, Contains, Some}
use Rattle.tree_model.specs.declared.tree.Symbol.{Symbol}
use Rattle.tree_model.specs.Signatures.{Signature, IsRoot, Alike}
use Rattle.tree_model.specs.Trees.{at}
use Rattle.tree_model.specs.Valuations.{Valuation}

-- an equation: a variable equals a variable, or a symbol applied to variables
pub data Equation : Type 0 where
  equals_variable : ℕ → ℕ → Equation
  equals_term : ℕ → Symbol → List ℕ → Equation

-- the variable on the left
abbrev pub left_of : Equation → ℕ
left_of (equals_variable u r) = u
left_of (equals_term u symbol arguments) = u

-- the variables of an equation
abbrev pub variables_of : Equation → List ℕ
variables_of (equals_variable u r) = u ∷ r ∷ []
variables_of (equals_term u symbol arguments) = u ∷ arguments

module _ {σ : Signature} (e : Valuation σ) where
  -- u's value is the symbol applied to the arguments' values: they are its children, in order
  pub record IsApplied (u : ℕ) (symbol : Symbol) (arguments : List ℕ) : Type 0 where
    pub root : at (e u).graph [] ≡ Some (symbol, length arguments)
    pub child : (i : ℕ) → i < length arguments → (path : List ℕ)
        → at (e u).graph (i ∷ path) ≡ at (e (slice_index arguments i)).graph path

  -- the equation holds under the valuation
  abbrev pub EquationHolds : Equation → Type 0
  EquationHolds (equals_variable u r) = Alike (e u) (e r)
  EquationHolds (equals_term u symbol arguments) = IsApplied u symbol arguments

  -- the valuation is a solution of the system: each equation holds under it
  abbrev pub Solves : List Equation → Type 0
  Solves system = (q : Equation) → Contains system q → EquationHolds q

-- each symbol of the system is a root symbol over the signature
abbrev pub SystemFits : Signature → List Equation → Type 0
SystemFits σ system =
    (u : ℕ) (symbol : Symbol) (arguments : List ℕ) → Contains system (equals_term u symbol arguments) → IsRoot σ symbol (length arguments)

-- the variable is left of no equation: where the left sides are distinct, a solution may give it any value
abbrev pub IsParameter : List Equation → ℕ → Type 0
IsParameter system v = (q : Equation) → Contains system q → ¬ (left_of q ≡ v)

-- The left sides are distinct: no variable is left of two equations. And what a variable equals is not itself left of
-- an equation with a variable, so that no such equations run in a circle. This is a rational solved form.
pub record HasDistinctLefts (system : List Equation) : Type 0 where
  pub one_each : (p q : Equation) → Contains system p → Contains system q → left_of p ≡ left_of q → p ≡ q
  pub direct : (u r w : ℕ) → Contains system (equals_variable u r) → ¬ Contains system (equals_variable r w)
