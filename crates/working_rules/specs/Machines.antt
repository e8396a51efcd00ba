-- What a machine keeps.
use Rattle.std.specs.Prelude.{◌≡◌, ◌+◌, ◌<◌, []}
use Rattle.tree_model.specs.Signatures.{Signature}
use Rattle.flat_form.specs.Fitting.{NormFits}
use Rattle.node_facts.specs.Agreement.{IsHeld}
use Rattle.node_facts.specs.Branches.{norm_in, waiting, with_parts, BranchOver}
use Rattle.working_rules.specs.State.{State, IsOpening}

-- Some branch has parts, and all is well numbered. The turns that were made and the branches that wait are those with
-- parts. The store has its opening contents. Each list is the nested one.
pub record IsMachine (state : State) : Type 0 where
  pub some : 0 < with_parts (norm_in state.root)
  pub over : BranchOver state.free state.root
  pub counted : state.turns + waiting state.root ≡ with_parts (norm_in state.root)
  pub opening : IsOpening state.free state.store
  pub held : (σ : Signature) → NormFits σ (norm_in state.root) → IsHeld state.free [] state.root
