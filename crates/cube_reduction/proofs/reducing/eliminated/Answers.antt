use Rattle.std.proofs.Common.{ℕ, List, subst}
use Rattle.std.specs.Prelude.{IfOk}
use Rattle.flat_form.specs.declared.cube.Cube.{Cube}
use Rattle.flat_form.specs.Steps.{IsGrouped, Outcome}
use Rattle.cube_reduction.proofs.reducing.eliminated.Goals as goal

pub returns : goal.returns
returns c =
    subst (λ (z : List ℕ). IfOk c.renumbered.result (λ found. (raw : Cube) → IsGrouped raw c.args.grouped.mid z → Outcome raw found)) c.as_slice-else-branch.ensures
    c.renumbered.ensures
