use Rattle.std.proofs.Common.{rules, arith}
use Rattle.flat_form.proofs.Shapes.{ascends_from, rises_more, falls}
use Rattle.flat_form.proofs.solved.ascends.Goals as goal

pub returns-then-variable : goal.returns-then-variable
returns-then-variable c = (
  λ t. absurd (search rules),
  λ up. absurd (falls c.args.b.now c.loop-i.i c.get.result.now c.get-in-loop-i.result.now (omega arith) c.get.ensures c.get-in-loop-i.ensures
      (omega (arith, c.variable.ensures, c.variable-in-loop-i.ensures)) up),
)

pub loop-i-preserved : goal.loop-i-preserved
loop-i-preserved c =
    rises_more c.args.b.now c.loop-i.i c.get.result.now c.get-in-loop-i.result.now (omega arith) c.get.ensures c.get-in-loop-i.ensures
    (omega (arith, c.variable.ensures, c.variable-in-loop-i.ensures)) c.loop-i.invariant

pub returns : goal.returns
returns c = (λ t. ascends_from c.args.b.now c.loop-i.i (omega arith) c.loop-i.invariant, λ up. search rules)
