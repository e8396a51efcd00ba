use Rattle.std.proofs.lemmas.Result.{on_ok_weaker}
use Rattle.formula_ast.specs.Forms.{form_of}
use Rattle.formula_ast.specs.Occurrences.{free_occurrences}
use Rattle.formula_ast.proofs.Collected.{nothing_met, both_met, without_all-push}
use Rattle.formula_ast.proofs.Occurring.{of_nothing, of_pair, of_call, of_not, of_bound, of_term, of_both}
use Rattle.formula_ast.proofs.free.Free.+formula.Goals as goal

pub formula-returns-in-Call-clause-met : goal.formula-returns-in-Call-clause-met
formula-returns-in-Call-clause-met t c = rw (of_call c.args.f.now c.in-Call.field-0 c.in-Call.ts c.in-Call.is) c.terms.ensures.met

pub formula-returns-in-Not-clause-met : goal.formula-returns-in-Not-clause-met
formula-returns-in-Not-clause-met t c = rw (of_not c.args.f.now c.get.result.now (rw c.get.ensures c.in-Not.is)) c.formula.ensures.met

pub formula-returns-in-True-clause-met : goal.formula-returns-in-True-clause-met
formula-returns-in-True-clause-met t c = rw (of_nothing c.args.f.now c.in-True.is) (nothing_met c.args.self.now.bound.items c.args.self.now.met)

pub formula-returns-in-True-2-clause-met : goal.formula-returns-in-True-2-clause-met
formula-returns-in-True-2-clause-met t c = rw (of_nothing c.args.f.now c.in-True.is) (nothing_met c.args.self.now.bound.items c.args.self.now.met)

pub formula-returns-in-Exists-clause-met : goal.formula-returns-in-Exists-clause-met
formula-returns-in-Exists-clause-met t c = rw (of_bound c.args.f.now c.in-Exists.f c.in-Exists.x c.in-Exists.is) c.under.ensures.met

pub formula-returns-in_ok-formula-in-And-clause-met : goal.formula-returns-in_ok-formula-in-And-clause-met
formula-returns-in_ok-formula-in-And-clause-met t c =
    let joined = of_both c.args.f.now c.get-in-And.result.now c.get-in-And-2.result.now (rw (c.get-in-And.ensures, c.get-in-And-2.ensures) c.in-And.is) in
    rw joined (on_ok_weaker c.formula-in-And-2.result
    (λ met. both_met c.args.self.now.bound.items (free_occurrences (form_of c.get-in-And.result.now)) (free_occurrences (form_of c.get-in-And-2.result.now))
    c.in_ok-formula-in-And.ensures.met (rw (← c.in_ok-formula-in-And.ensures.bound) met))
    c.formula-in-And-2.ensures.met)

pub formula-returns-in-Finite-clause-met : goal.formula-returns-in-Finite-clause-met
formula-returns-in-Finite-clause-met t c = rw (of_term c.args.f.now c.in-Finite.t c.in-Finite.is) c.term.ensures.met

pub formula-returns-in-Eq-clause-met : goal.formula-returns-in-Eq-clause-met
formula-returns-in-Eq-clause-met t c = rw (of_pair c.args.f.now c.in-Eq.t c.in-Eq.s c.in-Eq.is) c.pair.ensures.met

pub under-returns-clause-met : goal.under-returns-clause-met
under-returns-clause-met t c =
    rw (← without_all-push c.args.self.now.bound.items c.args.x, ← c.in_ok-push.ensures.items, ← c.get.ensures) c.in_ok-formula.ensures.met
