use Rattle.std.proofs.Common.{◌-◌}
use Rattle.working_rules.specs.Forests.{branch_at}
use Rattle.working_rules.proofs.Readiness.{PartsToSee}
use Rattle.working_rules.proofs.arena.Arena.is_ready.Given as goal

abbrev pub invariant-loop-part : goal.invariant-loop-part
invariant-loop-part l = PartsToSee l.self (branch_at l.i l.self) l.end l.part

abbrev pub decreases-loop-part : goal.decreases-loop-part
decreases-loop-part l = l.end - l.part
