use Rattle.std.proofs.Common.{List, length, ap, arith, ◌∙◌}
use Rattle.lists.proofs.Items.{item_stands}
use Rattle.flat_form.specs.declared.cube.Part.{Part}
use Rattle.flattening.proofs.Norms.{pushed, none_made, norm_rolled}
use Rattle.flattening.proofs.EachCube.{denied_part_more, parts_done, made_alone}
use Rattle.flattening.proofs.cubes.deny_parts.Goals as goal

pub loop-part-preserved : goal.loop-part-preserved
loop-part-preserved c =
    denied_part_more _ c.args.parts.now c.loop-part.part-index c.part-item.result _ _ _ _ (item_stands _ _ _ _ c.as_slice-part-items.ensures (omega arith) c.part-item.is) c.loop-part.invariant
    (norm_rolled _ _ _ ∙ made_alone _ _ _ _ c.in_ok-basic.ensures (none_made _ c.new.ensures)) (pushed _ _ _ c.in_ok-push.ensures.ok)

pub returns : goal.returns
returns c = parts_done _ _ _ _ _ (ap (λ (z : List Part). length z) c.as_slice-part-items.ensures) c.loop-part.auto.part-index-end c.loop-part-test.false c.loop-part.invariant
