use Rattle.std.proofs.Common.{◌≡◌, ℕ, suc, ◌+◌, ◌-◌, List, ◌++◌, ap, ◌∙◌, arith}
use Rattle.generator.proofs.Questions.{begun, one_question_more}
use Rattle.generator.proofs.file.generate.Goals as goal

pub loop-init : goal.loop-init
loop-init c = begun _ _ _ c.requires c.new-draws.ensures (c.in_ok-push.ensures ∙ ap (λ (t : List ℕ). t ++ _) c.new-text.ensures.bytes)

pub loop-preserved : goal.loop-preserved
loop-preserved c =
    let one_less : c.args.questions - c.loop.counter ≡ suc (c.args.questions - (c.loop.counter + 1)) = omega arith in
    one_question_more _ _ _ _ _ _ _ one_less c.in_ok-write_question.ensures c.loop.invariant
