-- The parts of a cube over the variables before them: what is kept of one, its shape, and new numbers for its variables.
use Rattle.std.specs.Prelude.{◌≡◌, ℕ, ◌<◌, List, [], ◌∷◌, map, length, slice_index, Contains}
use Rattle.tree_model.specs.declared.tree.Symbol.{Symbol}
use Rattle.flat_form.specs.declared.atom.Flat.{Flat}
use Rattle.flat_form.specs.declared.atom.Flat.TheVariants.{VarVar, VarTerm, Finite}
use Rattle.flat_form.specs.Solved.{variable_of, Ascends, IsOpen}

-- the variables of an atom
abbrev pub variables_of : Flat → List ℕ
variables_of (VarVar u v) = u ∷ v ∷ []
variables_of (VarTerm u symbol arguments) = u ∷ arguments
variables_of (Finite u) = u ∷ []

-- all variables of the atoms are below n
abbrev pub AllBelow : ℕ → List Flat → Type 0
AllBelow n atoms = (atom : Flat) → Contains atoms atom → (v : ℕ) → Contains (variables_of atom) v → v < n

-- the first m variables reach v along terms
pub data Under (m : ℕ) (part : List Flat) : ℕ → Type 0 where
  top : {v : ℕ} → v < m → Under m part v
  below : {u : ℕ} (symbol : Symbol) (xs : List ℕ) → Under m part u → Contains part (VarTerm u symbol xs) → (i : ℕ) → i < length xs
      → Under m part (slice_index xs i)

-- what is kept: variable equations of the first m variables, and what stands at variables that these reach
abbrev pub IsKept : ℕ → List Flat → Flat → Type 0
IsKept m part (VarVar u v) = u < m
IsKept m part (VarTerm u symbol xs) = Under m part u
IsKept m part (Finite u) = Under m part u

-- the atoms that are kept, in ascending order
pub record IsPruned (m : ℕ) (part pruned : List Flat) : Type 0 where
  pub ascending : Ascends pruned
  pub from : (atom : Flat) → Contains pruned atom → Contains part atom × IsKept m part atom
  pub all : (atom : Flat) → Contains part atom → IsKept m part atom → Contains pruned atom

-- the shape of a part over the first m variables, beside a base
pub record IsPartOver (m : ℕ) (base part : List Flat) : Type 0 where
  pub left_open : (atom : Flat) → Contains part atom → variable_of atom < m → IsOpen base (variable_of atom)
  pub equal : (u h : ℕ) → Contains part (VarVar u h) → (u < m) × (h < m) × (¬ (u ≡ h)) × ((r : ℕ) → Contains base (VarVar h r) → ¬ (u ≡ r))
  pub unmarked : (u : ℕ) → Contains part (Finite u) → ¬ Contains base (Finite u)
  pub under : (atom : Flat) → Contains part atom → Under m part (variable_of atom)

-- the atom with the number f v in place of each variable v
abbrev pub renumbered : (ℕ → ℕ) → Flat → Flat
renumbered f (VarVar u v) = VarVar (f u) (f v)
renumbered f (VarTerm u symbol arguments) = VarTerm (f u) symbol (map f arguments)
renumbered f (Finite u) = Finite (f u)
