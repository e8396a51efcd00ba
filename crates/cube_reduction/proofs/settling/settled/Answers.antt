use Rattle.std.proofs.Common.{arith}
use Rattle.cube_reduction.proofs.SettledParts.{added_is_over}
use Rattle.cube_reduction.proofs.settling.settled.Goals as goal

pub pruned-requires-clause-over : goal.pruned-requires-clause-over
pruned-requires-clause-over c =
    added_is_over c.args.over.now.count c.args.part.now.inner c.in-Some.count c.args.over.now.base c.args.part.now.basic c.in-Some-found.added c.in_ok-found.found
    (omega (arith, c.in-Some.ensures)) c.requires.base c.requires.part c.in-Some-found.is c.in_ok-found.ensures
