use Rattle.std.proofs.Common.{◌+◌, ◌-◌, ◌*◌, length}
use Rattle.finiteness.proofs.Exploring.{IsWalking}
use Rattle.finiteness.proofs.walks.walk_from.Given as goal

abbrev pub invariant-turns : goal.invariant-turns
invariant-turns l = IsWalking l.graph.contents l.start l.visits.entries l.walk.items l.top

abbrev pub decreases-turns : goal.decreases-turns
decreases-turns l = 2 * (length l.graph.contents.bindings - length l.visits.entries) + length l.walk.items
