use Rattle.std.proofs.Common.{[], arith, Some}
use Rattle.lists.proofs.Items.{item_stands}
use Rattle.formula_grammar.specs.Written as joint
use Rattle.explicit_form.specs.Explicit.{cube_form}
use Rattle.explicit_form.proofs.Joined.{joins_next}
use Rattle.explicit_form.proofs.cubes.cubes_joined.Goals as goal

pub loop-cube-preserved : goal.loop-cube-preserved
loop-cube-preserved c =
    let got = item_stands _ c.args.cubes.now _ _ c.as_slice-cube-items.ensures (omega arith) c.cube-item.is in
    joins_next joint.or cube_form c.args.cubes.now c.loop-cube.cube-index c.cube-item.result (Some c.in_ok-or_else.field-0) _ [] got c.in_ok-f.ensures
    (c.in_ok-or_else.ensures _ c.loop-cube.invariant)
