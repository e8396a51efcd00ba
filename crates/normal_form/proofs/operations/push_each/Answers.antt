use Rattle.std.proofs.Common.{refl, subst, arith}
use Rattle.flat_form.specs.declared.cube.Cube.{Cube}
use Rattle.normal_form.specs.Taking.{KeepsOne}
use Rattle.normal_form.proofs.Continuing.{kept_more}
use Rattle.normal_form.proofs.Walking.{at_item}
use Rattle.normal_form.proofs.operations.push_each.Goals as goal

pub loop-cube-preserved : goal.loop-cube-preserved
loop-cube-preserved c =
    kept_more c.args.out.now c.args.cubes.now c.loop-cube.cube-index c.loop-cube.out c.push_new.new.cubes c.cube-item.result
    (at_item c.args.cubes.now c.args.cubes.now c.loop-cube.cube-index c.cube-item.result refl (omega arith) c.cube-item.is) (subst (λ (z : Cube). KeepsOne c.loop-cube.out z c.push_new.new.cubes) c.in_ok-copy.ensures c.in_ok-push_new.ensures) c.loop-cube.invariant
