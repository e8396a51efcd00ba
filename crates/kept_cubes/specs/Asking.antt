-- What comes of asking a store whether a cube can hold together with its atoms.
use Rattle.std.specs.Prelude.{◌≡◌, ℕ, ◌<◌, ◌≤◌, Bool, true, false, List, [], ◌∷◌, ◌++◌, length, Contains, ◌⊎◌}
use Rattle.tree_model.specs.Signatures.{Signature}
use Rattle.flat_form.specs.declared.atom.Flat.{Flat}
use Rattle.flat_form.specs.declared.cube.Part.{Part}
use Rattle.flat_form.specs.declared.cube.Cube.{Cube}
use Rattle.flat_form.specs.Added.{IsAdded, IsSolvedForm}
use Rattle.flat_form.specs.Fitting.{BasicFits}
use Rattle.flat_form.specs.Meanings.{HasNone}
use Rattle.flat_form.specs.Solved.{variable_of}
use Rattle.basic_solver.specs.declared.scope.Scope.{Scope}
use Rattle.basic_solver.specs.Stores.{atoms_of, below, with_atom}
use Rattle.node_facts.specs.Nested.{beside, CanHold, NeverHolds}

-- the scopes with the atoms last in the top one
abbrev pub with_atoms : List Flat → List Scope → List Scope
with_atoms [] scopes = scopes
with_atoms (atom ∷ rest) scopes = with_atoms rest (with_atom atom scopes)

-- the same scopes are below the top one
pub record IsOverSame (old new : List Scope) : Type 0 where
  pub below_is : below new ≡ below old
  pub as_many : length new ≡ length old

-- the atoms were asserted, or they have no solution together with those before
abbrev pub AreAsserted : List Scope → List Flat → List Scope → Bool → Type 0
AreAsserted old atoms new true = new ≡ with_atoms atoms old
AreAsserted old atoms new false = HasNone (atoms_of old ++ atoms)

-- whether one of the atoms stands for one of the first m variables
abbrev pub IsSaidBelow : ℕ → List Flat → Bool → Type 0
IsSaidBelow m atoms true = (atom : Flat) × Contains atoms atom × (variable_of atom < m)
IsSaidBelow m atoms false = (atom : Flat) → Contains atoms atom → m ≤ variable_of atom

-- what the further atoms add to the solved form of the atoms, where the symbols of all fit a signature
abbrev pub AddsTo : List Flat → List Flat → List Flat → Type 0
AddsTo atoms more extra =
    (σ : Signature) → BasicFits σ (atoms ++ more) → (form : List Flat) → IsSolvedForm atoms form → IsAdded form (form ++ more) extra

-- whether the further atoms cannot hold beside the atoms, or add one that stands for one of the first m variables
abbrev pub FailsSomewhere : ℕ → List Flat → List Flat → Bool → Type 0
FailsSomewhere m atoms more true = HasNone (atoms ++ more) ⊎ ((extra : List Flat) × AddsTo atoms more extra × IsSaidBelow m extra true)
FailsSomewhere m atoms more false = (extra : List Flat) × AddsTo atoms more extra × IsSaidBelow m extra false

-- whether this is so of each part
abbrev pub EachFailsSomewhere : ℕ → List Flat → List Part → Bool → Type 0
EachFailsSomewhere m atoms parts true = (part : Part) → Contains parts part → FailsSomewhere m atoms part.basic true
EachFailsSomewhere m atoms parts false = (part : Part) × Contains parts part × FailsSomewhere m atoms part.basic false

-- whether the cube can hold beside the atoms
abbrev pub HoldsTogether : List Flat → Cube → Bool → Type 0
HoldsTogether C c true = CanHold (beside C c)
HoldsTogether C c false = NeverHolds (beside C c)
