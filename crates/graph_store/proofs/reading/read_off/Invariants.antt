use Rattle.settled_facts.specs.Forms.{Says}
use Rattle.graph_store.specs.Lines.{AreThose}
use Rattle.graph_store.proofs.reading.read_off.Given as goal

abbrev pub invariant-loop-v : goal.invariant-loop-v
invariant-loop-v l = AreThose (Says l.graph.contents) l.v l.form
