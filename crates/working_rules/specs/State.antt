-- The state of solving branch by branch, and what a turn does to it.
use Rattle.std.specs.Prelude.{◌≡◌, ℕ, ◌+◌, List, [], ◌∷◌, slice_get, Some}
use Rattle.lists.specs.Distinct.{IsDistinct}
use Rattle.tree_model.specs.Signatures.{Signature}
use Rattle.flat_form.specs.declared.atom.Flat.{Flat}
use Rattle.flat_form.specs.declared.cube.Cube.{Cube}
use Rattle.flat_form.specs.Fitting.{NormFits}
use Rattle.flat_form.specs.Numbering.{CubesOver}
use Rattle.basic_solver.specs.Stores.{Stored}
use Rattle.node_facts.specs.Agreement.{IsTurn}
use Rattle.node_facts.specs.Branches.{Branch, norm_in, ready_places}
use Rattle.node_facts.specs.Places.{At, listed}

-- how many variables are free, the tree of branches, the store, and how many turns were made
pub record State : Type 0 where
  pub free : ℕ
  pub root : Branch
  pub store : Stored
  pub turns : ℕ

-- the store has its opening contents: one scope, with the free variables and no atoms
abbrev pub IsOpening : ℕ → Stored → Type 0
IsOpening free store = store.scopes ≡ record { variables = free; atoms = [] } ∷ []

-- A turn picks the ready branch with this number, in the order of places. That branch has a list now: what a turn gives it
-- under the atoms round it. All else in the tree stays.
pub record Turned (old : State) (pick : ℕ) (new : State) : Type 0 where
  pub place : ℕ
  pub variables : ℕ
  pub under : List Flat
  pub here : Branch
  pub list : List Cube
  pub picked : slice_get (ready_places 0 old.root) pick ≡ Some place
  pub stands : At old.free [] old.root place variables under here
  pub over : CubesOver variables list
  pub distinct : IsDistinct list
  pub turn : (σ : Signature) → NormFits σ (norm_in old.root) → IsTurn σ variables under here list
  pub listed_there : new.root ≡ listed place list old.root
  pub free_stays : new.free ≡ old.free
  pub counted : new.turns ≡ old.turns + 1
