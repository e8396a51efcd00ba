use Rattle.working_rules.proofs.Readiness.{PickedFrom}
use Rattle.working_rules.proofs.arena.Arena.ready_place.Given as goal

abbrev pub invariant-loop-i : goal.invariant-loop-i
invariant-loop-i l = PickedFrom l.self l.pick l.left l.i
