use Rattle.std.proofs.Common.{◌≡◌, arith, Some, ◌++◌, map, take, ap, ◌∙◌, subst}
use Rattle.lists.proofs.Items.{item_stands, all_items}
use Rattle.formula_grammar.specs.Written as joint
use Rattle.explicit_form.specs.Explicit.{denied, denied_part}
use Rattle.explicit_form.specs.Joining.{Joins}
use Rattle.explicit_form.proofs.Joined.{joins_next, denied_all}
use Rattle.explicit_form.proofs.cubes.parts_joined.Goals as goal

pub loop-part-preserved : goal.loop-part-preserved
loop-part-preserved c =
    let got = item_stands _ c.args.parts.now _ _ c.as_slice-part-items.ensures (omega arith) c.part-item.is in
    λ fs before.
    joins_next joint.and (λ part. denied (denied_part c.args.m part)) c.args.parts.now c.loop-part.part-index c.part-item.result (Some c.in_ok-and_also.field-0) _ fs got c.in_ok-f.ensures
    (c.in_ok-and_also.ensures _ (c.loop-part.invariant fs before))

pub returns : goal.returns
returns c =
    let whole : take c.loop-part.part-index c.args.parts.now ≡ c.args.parts.now = all_items _ _ _ c.as_slice-part-items.ensures (omega arith) in
    λ fs before.
    subst (λ l. Joins joint.and c.loop-part.all (fs ++ l)) (ap (map (λ part. denied (denied_part c.args.m part))) whole ∙ denied_all c.args.m c.args.parts.now)
    (c.loop-part.invariant fs before)
