use Rattle.finiteness.specs.Marks.{AreSettled}
use Rattle.finiteness.proofs.search.onward.Given as goal

abbrev pub invariant-loop-argument : goal.invariant-loop-argument
invariant-loop-argument l = AreSettled l.b l.marks l.fn.at.place l.fn.at.argument l.argument
