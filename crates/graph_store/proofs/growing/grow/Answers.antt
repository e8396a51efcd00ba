use Rattle.term_graph.proofs.Growing.{grows_none}
use Rattle.graph_store.proofs.Growth.{grown_none, grown_more, grows_more}
use Rattle.graph_store.proofs.growing.grow.Goals as goal

pub loop-init : goal.loop-init
loop-init c = record { grows = grows_none c.args.graph.now; grown = grown_none c.args.graph.now.contents }

pub loop-preserved : goal.loop-preserved
loop-preserved c = record {
  grows = grows_more c.args.graph.now c.loop.graph c.add_variable.new.self c.in_ok-add_variable.ensures.ok c.loop.invariant.grows;
  grown = grown_more c.args.graph.now.contents c.loop.graph c.add_variable.new.self c.loop.counter c.well_formed-in-loop.ensures c.in_ok-add_variable.ensures.ok c.loop.invariant.grown;
}
