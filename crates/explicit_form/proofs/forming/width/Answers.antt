use Rattle.std.proofs.Common.{◌≡◌, ◌+◌, arith, ap, ◌∙◌, max, take}
use Rattle.lists.proofs.Items.{item_stands}
use Rattle.explicit_form.specs.Explicit as spec
use Rattle.explicit_form.proofs.Joined.{width_next}
use Rattle.explicit_form.proofs.forming.width.Goals as goal

pub loop-cube-preserved : goal.loop-cube-preserved
loop-cube-preserved c =
    let got = item_stands _ c.args.cubes.now _ _ c.as_slice-cube-items.ensures (omega arith) c.cube-item.is in
    let sum : c.in-Some.here ≡ c.cube-item.result.outer + spec.widest c.cube-item.result.parts = omega (arith, c.widest.ensures) in
    c.larger-most.ensures ∙ ap (λ m. max m c.in-Some.here) c.loop-cube.invariant
    ∙ ap (max (spec.width (take c.loop-cube.cube-index c.args.cubes.now))) sum
    ∙ width_next c.args.cubes.now c.loop-cube.cube-index c.cube-item.result got
