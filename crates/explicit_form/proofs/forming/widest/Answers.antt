use Rattle.std.proofs.Common.{arith, ap, ◌∙◌, max}
use Rattle.lists.proofs.Items.{item_stands}
use Rattle.explicit_form.proofs.Joined.{widest_next}
use Rattle.explicit_form.proofs.forming.widest.Goals as goal

pub loop-part-preserved : goal.loop-part-preserved
loop-part-preserved c =
    let got = item_stands _ c.args.parts.now _ _ c.as_slice-part-items.ensures (omega arith) c.part-item.is in
    c.larger-most.ensures ∙ ap (λ m. max m c.part-item.result.inner) c.loop-part.invariant ∙ widest_next c.args.parts.now c.loop-part.part-index c.part-item.result got
