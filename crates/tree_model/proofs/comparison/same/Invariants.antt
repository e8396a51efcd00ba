use Rattle.std.proofs.Common.{◌+◌, ◌-◌, length}
use Rattle.tree_model.proofs.Pairing.{IsComparing}
use Rattle.tree_model.proofs.comparison.same.Given as goal

abbrev pub invariant-loop-i : goal.invariant-loop-i
invariant-loop-i l = IsComparing l.a l.b l.pairs l.i

abbrev pub decreases-loop-i : goal.decreases-loop-i
decreases-loop-i l = l.pairs.left + (length l.pairs.pairs - l.i)
