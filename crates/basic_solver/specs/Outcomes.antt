-- What the solver answers: an atom for each variable, the atoms that are added, or that there is no solution.
use Rattle.std.specs.Prelude.{◌≡◌, ℕ, ◌<◌, Bool, true, false, List, [], ◌∷◌, ◌++◌, length, map, slice_index_or, slice_set, Option, Some, None, All, Contains, ◌↔◌}
use Rattle.tree_model.specs.declared.tree.Symbol.{Symbol}
use Rattle.flat_form.specs.declared.atom.Flat.{Flat}
use Rattle.flat_form.specs.declared.atom.Flat.TheVariants.{VarVar, VarTerm, Finite}
use Rattle.flat_form.specs.Classes.{Class}
use Rattle.flat_form.specs.Meanings.{HasNone}
use Rattle.flat_form.specs.Numbering.{BasicOver}
use Rattle.flat_form.specs.Solved.{variable_of, Ascends, HasTerm, IsDirect}
use Rattle.flat_form.specs.Added.{Adds, IsAdded}
use Rattle.basic_solver.specs.Names.{name_in, IsNaming}
use Rattle.basic_solver.specs.Flags.{AreClasses, IsSet, AreReached, IsPassedOn}

-- the flags of the variables that have a term in the base
abbrev pub AreLeads : List Flat → List Bool → Type 0
AreLeads base leads = (v : ℕ) → (slice_index_or leads v false ≡ true) ↔ HasTerm base v

-- the atom is no equation for v
abbrev pub LeavesOpen : ℕ → Flat → Type 0
LeavesOpen v (VarVar u r) = ¬ (u ≡ v)
LeavesOpen v (VarTerm u symbol xs) = ¬ (u ≡ v)
LeavesOpen v (Finite u) = Unit {0}

-- the atom gives no term to a variable with this name
abbrev pub GivesNoTerm : List ℕ → ℕ → Flat → Type 0
GivesNoTerm names name (VarVar u r) = Unit {0}
GivesNoTerm names name (VarTerm u symbol xs) = ¬ (name_in names u ≡ name)
GivesNoTerm names name (Finite u) = Unit {0}

-- the atom says of no variable with this name that it is finite
abbrev pub IsNoFinite : List ℕ → ℕ → Flat → Type 0
IsNoFinite names name (VarVar u r) = Unit {0}
IsNoFinite names name (VarTerm u symbol xs) = Unit {0}
IsNoFinite names name (Finite u) = ¬ (name_in names u ≡ name)

-- a finite atom's class is done
abbrev pub IsFiniteDone : List ℕ → List Bool → Flat → Type 0
IsFiniteDone names done (VarVar u r) = Unit {0}
IsFiniteDone names done (VarTerm u symbol xs) = Unit {0}
IsFiniteDone names done (Finite u) = IsSet names done u

-- the atom does not say that a variable is finite
abbrev pub IsEquation : Flat → Type 0
IsEquation (VarVar u r) = Unit {0}
IsEquation (VarTerm u symbol xs) = Unit {0}
IsEquation (Finite u) = ⊥

-- where the atom gives a variable a term, this has a flag
abbrev pub with_lead : Flat → List Bool → List Bool
with_lead (VarVar u r) leads = leads
with_lead (VarTerm u symbol xs) leads = slice_set leads u true
with_lead (Finite u) leads = leads

-- the equation of v with the atom's term, where that is of the class that is named v
abbrev pub IsTermFor : List ℕ → Flat → ℕ → Option Flat → Type 0
IsTermFor names atom v None = GivesNoTerm names v atom
IsTermFor names atom v (Some found) =
    (u : ℕ) × (symbol : Symbol) × (xs : List ℕ) × (atom ≡ VarTerm u symbol xs) × (name_in names u ≡ v) × (found ≡ VarTerm v symbol (map (name_in names) xs))

-- that v is finite, where its flag is set and the base says so of no variable with this name
abbrev pub IsFiniteLine : List ℕ → List Bool → List Flat → ℕ → Option Flat → Type 0
IsFiniteLine names marks base v None = ¬ ((slice_index_or marks v false ≡ true) × All (IsNoFinite names v) base)
IsFiniteLine names marks base v (Some atom) = (atom ≡ Finite v) × (slice_index_or marks v false ≡ true) × All (IsNoFinite names v) base

-- the equation of v with a term of the class that is named v, its arguments by name
abbrev pub IsTermLine : List ℕ → List Flat → ℕ → Option Flat → Type 0
IsTermLine names atoms v None = All (GivesNoTerm names v) atoms
IsTermLine names atoms v (Some atom) =
    (u : ℕ) × (symbol : Symbol) × (xs : List ℕ) × Contains atoms (VarTerm u symbol xs) × (name_in names u ≡ v) × (atom ≡ VarTerm v symbol (map (name_in names) xs))

-- tables of the names and of the reached classes of atoms, over a base that is among them
pub record AreTables (leads : List Bool) (names : List ℕ) (marks : List Bool) (base atoms : List Flat) : Type 0 where
  pub naming : IsNaming leads names
  pub leads_are : AreLeads base leads
  pub classes : AreClasses names atoms
  pub reached : AreReached names atoms marks
  pub passed_on : All (IsPassedOn names marks) atoms
  pub over : BasicOver (length names) atoms
  pub base_over : BasicOver (length names) base
  pub among : (atom : Flat) → Contains base atom → Contains atoms atom
  pub direct : IsDirect base

-- the one atom that is added for v, or none
abbrev pub IsLine : List Flat → List Flat → ℕ → Option Flat → Type 0
IsLine base atoms v None = (other : Flat) → variable_of other ≡ v → ¬ Adds base atoms other
IsLine base atoms v (Some atom) =
    (variable_of atom ≡ v) × Adds base atoms atom × ((other : Flat) → variable_of other ≡ v → Adds base atoms other → other ≡ atom)

-- the atoms, with a found one last
abbrev pub with_found : List Flat → Option Flat → List Flat
with_found lines None = lines
with_found lines (Some atom) = lines ++ atom ∷ []

-- what the atoms add to the base, or that they have no solution
abbrev pub IsOutcome : List Flat → List Flat → Option (List Flat) → Type 0
IsOutcome base atoms None = HasNone atoms
IsOutcome base atoms (Some added) = IsAdded base atoms added

-- numbers for n variables, the same for two exactly where they are in one class
abbrev pub AreClassNames : ℕ → List Flat → List ℕ → Type 0
AreClassNames n atoms names = (length names ≡ n) × ((u v : ℕ) → Class atoms u v ↔ name_in names u ≡ name_in names v)

-- the atoms that are added for the variables below n, in ascending order
pub record IsListed (n : ℕ) (base atoms lines : List Flat) : Type 0 where
  pub ascending : Ascends lines
  pub each : (atom : Flat) → Contains lines atom → Adds base atoms atom × (variable_of atom < n)
  pub all : (atom : Flat) → Adds base atoms atom → variable_of atom < n → Contains lines atom
