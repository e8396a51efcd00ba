use Rattle.std.proofs.Common.{◌-◌, arith}
use Rattle.term_graph.proofs.Weighing.{lightened-start, lighten_in, lighten_step}
use Rattle.term_graph.proofs.class.lighten.Goals as goal

pub loop-left-init : goal.loop-left-init
loop-left-init c = record { within = omega arith; back = lightened-start c.args.roots.now c.len-left.result c.args.classes.now.items c.len-left.ensures }

pub index-requires : goal.index-requires
index-requires c =
    let k = lighten_in c.args.roots.now c.args.classes.now.items c.loop-left.classes.items c.loop-left.left (c.loop-left.left - 1) c.get-root.result.now c.requires (omega arith) c.loop-left.invariant.within c.get-root.ensures c.loop-left.invariant.back in
    omega arith

pub index_mut-requires : goal.index_mut-requires
index_mut-requires c =
    let k = lighten_in c.args.roots.now c.args.classes.now.items c.loop-left.classes.items c.loop-left.left (c.loop-left.left - 1) c.get-root.result.now c.requires (omega arith) c.loop-left.invariant.within c.get-root.ensures c.loop-left.invariant.back in
    omega arith

pub loop-left-preserved : goal.loop-left-preserved
loop-left-preserved c = record {
  within = omega arith;
  back = lighten_step c.args.roots.now c.args.classes.now.items c.loop-left.classes.items c.loop-left.left (c.loop-left.left - 1) c.get-root.result.now c.requires (omega arith) c.loop-left.invariant.within c.get-root.ensures c.loop-left.invariant.back
      c.index_mut.result.now c.index.result.now c.saturating_sub.result c.index_mut.ensures.value c.index.ensures c.saturating_sub.ensures;
}
