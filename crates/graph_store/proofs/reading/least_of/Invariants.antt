use Rattle.std.proofs.Common.{take}
use Rattle.settled_facts.specs.Forms.{AreLeast}
use Rattle.graph_store.proofs.reading.least_of.Given as goal

abbrev pub invariant-loop-i : goal.invariant-loop-i
invariant-loop-i l = AreLeast l.graph.contents (take l.i l.xs) l.least
