use Rattle.std.proofs.lemmas.Result.{on_ok_weaker}
use Rattle.formula_ast.specs.Occurrences.{variables_in}
use Rattle.formula_ast.proofs.Collected.{both_met}
use Rattle.formula_ast.proofs.free.Free.pair.Goals as goal

pub returns-clause-met : goal.returns-clause-met
returns-clause-met c =
    on_ok_weaker c.term-2.result
    (λ met. both_met c.args.self.now.bound.items (variables_in c.args.t.now) (variables_in c.args.s.now) c.in_ok-term.ensures.met (rw (← c.in_ok-term.ensures.bound) met))
    c.term-2.ensures.met
