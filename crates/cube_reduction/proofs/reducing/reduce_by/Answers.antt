use Rattle.std.specs.Prelude.{IfSome}
use Rattle.std.proofs.Common.{◌≡◌, Option}
use Rattle.std.proofs.lemmas.Result.{IfOk-weaker}
use Rattle.flat_form.specs.declared.cube.Cube.{Cube}
use Rattle.flat_form.specs.Numbering.{IsWellNumbered}
use Rattle.flat_form.specs.Steps.{Outcome}
use Rattle.cube_reduction.proofs.Outcomes.{is_over}
use Rattle.cube_reduction.proofs.reducing.reduce_by.Goals as goal

pub returns-clause-over : goal.returns-clause-over
returns-clause-over c =
    let raw = c.args.raw in
    IfOk-weaker c.outcome_of.result (λ (found : Option Cube). Outcome raw found) (λ (found : Option Cube). IfSome found (λ (cube : Cube). (cube.free ≡ raw.free) × IsWellNumbered cube))
    (λ found outcome. is_over raw c.requires found outcome) c.outcome_of.ensures
