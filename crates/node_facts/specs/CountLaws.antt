-- Laws of how many branches wait and which are ready.
use Rattle.std.specs.Prelude.{◌≡◌, ℕ, ◌+◌, true, List, length, Contains, ◌↔◌}
use Rattle.tree_model.specs.Signatures.{Signature}
use Rattle.tree_model.specs.Valuations.{Valuation}
use Rattle.flat_form.specs.declared.atom.Flat.{Flat}
use Rattle.flat_form.specs.declared.cube.Cube.{Cube}
use Rattle.flat_form.specs.Meanings.{NormHolds}
use Rattle.flat_form.specs.Normals.{Norm}
use Rattle.flat_form.specs.Numbering.{NormOver}
use Rattle.node_facts.specs.Agreement.{IsHeld}
use Rattle.node_facts.specs.Branches.{Branch, norm_in, unturned, is_waiting, is_ready, waiting, with_parts, ready_places, BranchHolds, BranchOver}
use Rattle.node_facts.specs.Places.{At, listed}

-- one that waited and has a list now waits no longer, and all others do as before
abbrev pub ListedCounts : Type 0
ListedCounts =
    (n i m : ℕ) (round under : List Flat) (root x : Branch) (list : List Cube) → At n round root i m under x → is_waiting x ≡ true
    → waiting (listed i list root) + 1 ≡ waiting root

-- none is ready exactly where none waits
abbrev pub ReadyUnlessDone : Type 0
ReadyUnlessDone = (at : ℕ) (x : Branch) → length (ready_places at x) ≡ 0 ↔ waiting x ≡ 0

-- a ready branch stands at place i
pub record IsReadyAt (n : ℕ) (round : List Flat) (root : Branch) (i : ℕ) : Type 0 where
  pub variables : ℕ
  pub under : List Flat
  pub here : Branch
  pub stands : At n round root i variables under here
  pub ready : is_ready here ≡ true

-- the ready places are those at which a ready branch stands
abbrev pub ReadyAreThere : Type 0
ReadyAreThere =
    (n : ℕ) (round : List Flat) (root : Branch) (at place : ℕ)
    → Contains (ready_places at root) place ↔ ((i : ℕ) × (place ≡ at + i) × IsReadyAt n round root i)

-- what a negated conjunction is like before the first turn
pub record UnturnedIs : Type 0 where
  pub norm : (x : Norm) → norm_in (unturned x) ≡ x
  pub count : (x : Norm) → waiting (unturned x) ≡ with_parts x
  pub over : (n : ℕ) (x : Norm) → NormOver n x → BranchOver n (unturned x)
  pub held : (n : ℕ) (round : List Flat) (x : Norm) → IsHeld n round (unturned x)
  pub means : (σ : Signature) (n : ℕ) (e : Valuation σ) (x : Norm) → BranchHolds n e (unturned x) ↔ NormHolds n e x
