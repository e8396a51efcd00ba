use Rattle.std.proofs.Common.{◌≡◌, None}
use Rattle.finiteness.specs.Stages.{stage_of}
use Rattle.finiteness.proofs.visits.finish.Goals as goal

pub returns-in_default : goal.returns-in_default
returns-in_default c =
    absurd (let absent : None ≡ stage_of c.args.visits.now.entries c.args.class = c.in_default.ensures.value in let met = c.requires in cc)
