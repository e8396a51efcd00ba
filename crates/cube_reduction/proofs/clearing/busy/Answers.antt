use Rattle.std.proofs.Common.{List, take, sym, ◌∙◌, subst}
use Rattle.flat_form.specs.declared.cube.Part.{Part}
use Rattle.flat_form.specs.Steps.{WithoutIdle}
use Rattle.reachability.proofs.Mentioned.{never}
use Rattle.cube_reduction.proofs.Taken.{always}
use Rattle.cube_reduction.proofs.WithoutIdle.{part_goes, part_stays}
use Rattle.cube_reduction.proofs.clearing.busy.Goals as goal
use Rattle.cube_reduction.proofs.clearing.busy.Goals.{then-not-mentions_some+in_ok-copy+in_ok-push, else-not-mentions_some}

pub loop-part-init : goal.loop-part-init
loop-part-init c = subst (λ (z : List Part). WithoutIdle c.args.idle.now (take 0 c.args.parts.now) z) (sym c.new-busy.ensures) WithoutIdle.all_done

pub loop-part-preserved : goal.loop-part-preserved
loop-part-preserved c =
    let idle = c.args.idle.now in
    let parts = c.args.parts.now in
    let i = c.loop-part.part-index in
    let part = c.part-item.result in
    elim c.if-not-mentions_some.branch [
      | then-not-mentions_some+in_ok-copy+in_ok-push w ↦
          part_stays idle parts i part c.loop-part-test.true c.part-item.is c.loop-part.busy c.if-not-mentions_some.busy c.loop-part.invariant _
          (λ found. never c.mentions_some.result w.if-not-mentions_some.true (c.mentions_some.ensures.1 found))
          w.in_ok-copy.ensures (w.busy-is ∙ w.in_ok-push.ensures.ok)
      | else-not-mentions_some w ↦
          part_goes idle parts i part c.loop-part-test.true c.part-item.is c.loop-part.busy c.if-not-mentions_some.busy c.loop-part.invariant
          (c.mentions_some.ensures.0 (always c.mentions_some.result w.if-not-mentions_some.false)) w.busy-is
    ]
