use Rattle.working_rules.specs.Rounds.{lowered}
use Rattle.working_rules.proofs.Rounds.{LowersTo}
use Rattle.working_rules.proofs.round.close.Given as goal

abbrev pub invariant-loop-left : goal.invariant-loop-left
invariant-loop-left l = LowersTo (lowered l.fn.count l.fn.store.scopes) l.left l.store.scopes

abbrev pub decreases-loop-left : goal.decreases-loop-left
decreases-loop-left l = l.left
