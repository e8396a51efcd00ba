use Rattle.term_graph.specs.Contents.{Grows}
use Rattle.congruence.specs.Turns.{weight, LeadsOn, AreInRange}
use Rattle.congruence.proofs.closing.close.Given as goal

abbrev pub decreases-more : goal.decreases-more
decreases-more l = weight l.graph.contents l.waiting

abbrev pub invariant-more : goal.invariant-more
invariant-more l = LeadsOn l.owners l.fn.graph.contents l.graph.contents l.fn.waiting l.waiting l.fn.starts l.starts × AreInRange l.graph.contents l.waiting × Grows l.fn.graph l.graph
