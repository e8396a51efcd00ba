use Rattle.std.proofs.Common.{take}
use Rattle.term_graph.specs.Contents.{Grows}
use Rattle.congruence.specs.Asserted.{AreWalked}
use Rattle.congruence.proofs.asserting.walk_all.Given as goal

abbrev pub invariant-loop-s : goal.invariant-loop-s
invariant-loop-s l = record {
  grows : Grows l.fn.graph l.graph;
  walked : AreWalked l.fn.graph.contents l.graph.contents (take l.s-index l.starts);
}
