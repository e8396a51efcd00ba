use Rattle.working_rules.proofs.Readiness.{CountedTo}
use Rattle.working_rules.proofs.arena.Arena.ready.Given as goal

abbrev pub invariant-loop-i : goal.invariant-loop-i
invariant-loop-i l = CountedTo l.self l.i l.count
