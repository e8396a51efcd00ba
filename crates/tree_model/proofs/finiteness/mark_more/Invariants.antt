use Rattle.tree_model.proofs.Marking.{IsWalking}
use Rattle.tree_model.proofs.finiteness.mark_more.Given as goal

abbrev pub invariant-loop-i : goal.invariant-loop-i
invariant-loop-i l = IsWalking l.nodes l.initial.marks l.marks l.more l.i
