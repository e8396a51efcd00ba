use Rattle.std.proofs.Common.{refl}
use Rattle.term_graph.proofs.Weighing.{merged-is}
use Rattle.term_graph.proofs.class.merge.Goals as goal

pub returns : goal.returns
returns c =
    merged-is c.args.classes.now.items c.args.v c.args.w c.index-one.result.now c.index-other.result.now c.min.result _ c.requires.v_in c.requires.w_in c.index-one.ensures c.index-other.ensures c.min.ensures refl
