use Rattle.std.proofs.Common.{arith}
use Rattle.lists.proofs.Items.{item_stands}
use Rattle.flattening.proofs.EachCube.{map_more}
use Rattle.flattening.proofs.cubes.place_basic.Goals as goal

pub loop-atom-preserved : goal.loop-atom-preserved
loop-atom-preserved c = map_more _ c.args.basic.now c.loop-atom.atom-index c.atom-item.result _ _ _ (item_stands _ _ _ _ c.as_slice-atom-items.ensures (omega arith) c.atom-item.is) c.loop-atom.invariant c.in_ok-place_atom.ensures c.in_ok-push.ensures.ok
