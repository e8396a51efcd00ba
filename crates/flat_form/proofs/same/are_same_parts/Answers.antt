use Rattle.std.proofs.Common.{rules}
use Rattle.flat_form.proofs.Sameness.{same_next}
use Rattle.flat_form.proofs.same.are_same_parts.Goals as goal

pub loop-i-preserved : goal.loop-i-preserved
loop-i-preserved c =
    same_next c.args.a.now c.args.b.now c.loop-i.i c.get.result.now c.get-in-loop-i.result.now c.get.ensures c.get-in-loop-i.ensures
    (c.is_same_part.ensures.0 (search rules)) c.loop-i.invariant
