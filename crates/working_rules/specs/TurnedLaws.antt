-- Laws of what a turn does to the state.
use Rattle.std.specs.Prelude.{◌≡◌, ℕ, ◌+◌, [], ◌↔◌}
use Rattle.tree_model.specs.Signatures.{Signature}
use Rattle.tree_model.specs.Valuations.{Valuation}
use Rattle.flat_form.specs.Fitting.{NormFits}
use Rattle.node_facts.specs.Agreement.{IsHeld}
use Rattle.node_facts.specs.Branches.{norm_in, waiting, BranchHolds, BranchOver}
use Rattle.working_rules.specs.State.{State, Turned}

-- a turn changes no negated conjunction, and the tree is well numbered again
pub record TurnedStays : Type 0 where
  pub norm : (old new : State) (pick : ℕ) → Turned old pick new → norm_in new.root ≡ norm_in old.root
  pub over : (old new : State) (pick : ℕ) → Turned old pick new → BranchOver old.free old.root → BranchOver new.free new.root
  pub held : (σ : Signature) (old new : State) (pick : ℕ) → Turned old pick new → NormFits σ (norm_in old.root) → IsHeld old.free [] old.root
      → IsHeld new.free [] new.root

-- the turns that were made and those that are left add up to the same
abbrev pub TurnedCounts : Type 0
TurnedCounts = (old new : State) (pick : ℕ) → Turned old pick new → new.turns + waiting new.root ≡ old.turns + waiting old.root

-- the whole means what it did
abbrev pub TurnedMeans : Type 0
TurnedMeans =
    (σ : Signature) (old new : State) (pick : ℕ) (e : Valuation σ) → Turned old pick new → BranchOver old.free old.root
    → NormFits σ (norm_in old.root) → IsHeld old.free [] old.root → BranchHolds old.free e old.root ↔ BranchHolds new.free e new.root
