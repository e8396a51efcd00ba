-- Lists of atoms in ascending order of their variables, at most one of each.
use Rattle.std.specs.Prelude.{◌≡◌, ℕ, ◌<◌, List, [], ◌∷◌, ◌++◌, Option, Some, None, Contains}
use Rattle.flat_form.specs.declared.atom.Flat.{Flat}
use Rattle.flat_form.specs.Solved.{variable_of, Ascends}

-- the one atom of the variable that has the property, or none where no atom of it has
abbrev pub IsTheOne : (Flat → Type 0) → ℕ → Option Flat → Type 0
IsTheOne Has v None = (other : Flat) → variable_of other ≡ v → ¬ Has other
IsTheOne Has v (Some atom) = (variable_of atom ≡ v) × Has atom × ((other : Flat) → variable_of other ≡ v → Has other → other ≡ atom)

-- the atoms of the variables below n that have the property, in ascending order
pub record AreThose (Has : Flat → Type 0) (n : ℕ) (atoms : List Flat) : Type 0 where
  pub ascending : Ascends atoms
  pub each : (atom : Flat) → Contains atoms atom → Has atom × (variable_of atom < n)
  pub all : (atom : Flat) → Has atom → variable_of atom < n → Contains atoms atom

-- the atoms, with a found one last
abbrev pub with_found : List Flat → Option Flat → List Flat
with_found atoms None = atoms
with_found atoms (Some atom) = atoms ++ atom ∷ []
