use Rattle.term_graph.specs.Contents.{Grows}
use Rattle.graph_store.specs.Levels.{HasGrownBy}
use Rattle.graph_store.proofs.growing.grow.Given as goal

abbrev pub invariant-loop : goal.invariant-loop
invariant-loop l = record {
  grows : Grows l.fn.graph l.graph;
  grown : HasGrownBy l.fn.graph.contents l.graph.contents l.counter;
}
