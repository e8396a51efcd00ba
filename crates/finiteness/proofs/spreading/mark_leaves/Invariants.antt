use Rattle.std.proofs.Common.{take}
use Rattle.std.specs.Map.{keys_of}
use Rattle.term_graph.specs.Contents.{Grows}
use Rattle.finiteness.proofs.Reached.{AreMarked}
use Rattle.finiteness.proofs.spreading.mark_leaves.Given as goal

abbrev pub invariant-loop-place : goal.invariant-loop-place
invariant-loop-place l = AreMarked l.fn.graph.contents l.graph.contents (take l.place (keys_of l.visits.entries)) × Grows l.fn.graph l.graph
