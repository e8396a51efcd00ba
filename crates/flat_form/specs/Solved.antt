-- The shape of a solved conjunction.
use Rattle.std.specs.Prelude.{◌≡◌, ℕ, ◌<◌, List, [], ◌∷◌, length, slice_index, Contains}
use Rattle.tree_model.specs.declared.tree.Symbol.{Symbol}
use Rattle.flat_form.specs.declared.atom.Flat.{Flat}
use Rattle.flat_form.specs.declared.atom.Flat.TheVariants.{VarVar, VarTerm, Finite}

-- the variable that an atom stands for: its left side, or the one that is finite
abbrev pub variable_of : Flat → ℕ
variable_of (VarVar u v) = u
variable_of (VarTerm u symbol arguments) = u
variable_of (Finite u) = u

-- each atom's variable is greater than all before it, so each variable has one atom at most
abbrev pub Ascends : List Flat → Type 0
Ascends [] = Unit {0}
Ascends (atom ∷ rest) = ((later : Flat) → Contains rest later → variable_of atom < variable_of later) × Ascends rest

-- v is a root: it is left of no equation
pub record IsOpen (atoms : List Flat) (v : ℕ) : Type 0 where
  pub no_variable : (r : ℕ) → ¬ Contains atoms (VarVar v r)
  pub no_term : (symbol : Symbol) (arguments : List ℕ) → ¬ Contains atoms (VarTerm v symbol arguments)

-- v is left of an equation with a term
abbrev pub HasTerm : List Flat → ℕ → Type 0
HasTerm atoms v = (symbol : Symbol) × (arguments : List ℕ) × Contains atoms (VarTerm v symbol arguments)

-- what a variable equals is smaller, and is itself left of no equation with a variable
abbrev pub IsDirect : List Flat → Type 0
IsDirect atoms = (u r : ℕ) → Contains atoms (VarVar u r) → (r < u) × ((w : ℕ) → ¬ Contains atoms (VarVar r w))

-- the shape of a solved conjunction
pub record IsSolved (atoms : List Flat) : Type 0 where
  pub ascending : Ascends atoms
  pub direct : IsDirect atoms
  pub plain : (u : ℕ) (symbol : Symbol) (xs : List ℕ) → Contains atoms (VarTerm u symbol xs) → (i : ℕ) → i < length xs
      → (r : ℕ) → ¬ Contains atoms (VarVar (slice_index xs i) r)
  pub apart : (u v : ℕ) (symbol : Symbol) (xs : List ℕ) → Contains atoms (VarTerm u symbol xs) → Contains atoms (VarTerm v symbol xs) → u ≡ v
