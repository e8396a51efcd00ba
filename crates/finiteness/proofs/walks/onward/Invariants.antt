use Rattle.finiteness.specs.Stages.{AreDoneBelow}
use Rattle.finiteness.proofs.walks.onward.Given as goal

abbrev pub invariant-loop-argument : goal.invariant-loop-argument
invariant-loop-argument l = AreDoneBelow l.graph.contents l.visits.entries l.fn.at.class l.fn.at.argument l.argument
