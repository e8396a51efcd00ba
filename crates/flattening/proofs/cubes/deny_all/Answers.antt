use Rattle.std.proofs.Common.{List, length, ap, arith}
use Rattle.lists.proofs.Items.{item_stands}
use Rattle.flat_form.specs.declared.cube.Cube.{Cube}
use Rattle.flattening.proofs.Norms.{pushed}
use Rattle.flattening.proofs.EachCube.{denied_more, cubes_done}
use Rattle.flattening.proofs.cubes.deny_all.Goals as goal

pub loop-cube-preserved : goal.loop-cube-preserved
loop-cube-preserved c =
    denied_more _ _ c.args.cubes.now c.loop-cube.cube-index c.cube-item.result _ _ _ _ (item_stands _ _ _ _ c.as_slice-cube-items.ensures (omega arith) c.cube-item.is) c.loop-cube.invariant c.in_ok-deny.ensures (pushed _ _ _ c.in_ok-push.ensures.ok)

pub returns : goal.returns
returns c = cubes_done _ _ _ _ _ _ (ap (λ (z : List Cube). length z) c.as_slice-cube-items.ensures) c.loop-cube.auto.cube-index-end c.loop-cube-test.false c.loop-cube.invariant
