use Rattle.std.proofs.Common.{◌-◌}
use Rattle.working_rules.specs.Forests.{branch_at}
use Rattle.working_rules.proofs.PartLists.{PartsToJoin}
use Rattle.working_rules.proofs.joining.join_parts.Given as goal

abbrev pub invariant-loop-part : goal.invariant-loop-part
invariant-loop-part l = PartsToJoin l.arena (branch_at l.place l.arena) l.count l.end l.part l.fn.first l.all

abbrev pub decreases-loop-part : goal.decreases-loop-part
decreases-loop-part l = l.end - l.part
