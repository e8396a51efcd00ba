use Rattle.std.proofs.Common.{arith}
use Rattle.term_graph.proofs.Weighing.{weighed-none, weigh_fits, weigh_step}
use Rattle.term_graph.proofs.class.weigh.Goals as goal

pub loop-i-init : goal.loop-i-init
loop-i-init c = weighed-none c.args.classes.now.items

pub overflow_add-index_mut : goal.overflow_add-index_mut
overflow_add-index_mut c =
    let k = weigh_fits c.args.roots.now c.args.classes.now.items c.loop-i.classes.items c.loop-i.i c.get-root.result.now c.index_mut.result.now c.requires (omega arith) c.get-root.ensures c.loop-i.invariant c.index_mut.ensures.value in
    omega arith

pub loop-i-preserved : goal.loop-i-preserved
loop-i-preserved c =
    weigh_step c.args.roots.now c.args.classes.now.items c.loop-i.classes.items c.loop-i.i c.get-root.result.now c.index_mut.result.now c.requires (omega arith) c.get-root.ensures c.loop-i.invariant c.index_mut.ensures.value
