use Rattle.std.proofs.Common.{◌∙◌}
use Rattle.flattening.proofs.Given.{number_hit, number_miss}
use Rattle.flattening.proofs.numbers.Numbers.of.Goals.{then-pair-variable, else-pair-variable}
use Rattle.flattening.proofs.numbers.Numbers.of.Goals as goal

pub loop-pair-preserved : goal.loop-pair-preserved
loop-pair-preserved c =
    let same = c.as_slice-pair-items.ensures.value ∙ c.self.view_is in
    elim c.if-pair-variable.branch [
      | then-pair-variable w ↦ number_hit _ _ _ _ _ same c.loop-pair-test.true w.if-pair-variable.true w.number-is
      | else-pair-variable w ↦ number_miss _ _ _ _ _ _ same c.loop-pair-test.true w.if-pair-variable.false c.loop-pair.invariant w.number-is
    ]
