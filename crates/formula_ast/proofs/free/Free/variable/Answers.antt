use Rattle.std.proofs.Common.{sym, ◌∙◌}
use Rattle.std.proofs.lemmas.Result.{on_ok_weaker}
use Rattle.formula_ast.proofs.Collected.{collects_bound, collects_free, collects_known, collects_new}
use Rattle.formula_ast.proofs.free.Free.variable.Goals.{then-contains-via-then-contains, then-contains-via-else-contains+then-contains-2}
use Rattle.formula_ast.proofs.free.Free.variable.Goals as goal

pub returns-then-contains-clause-met : goal.returns-then-contains-clause-met
returns-then-contains-clause-met c =
    elim c.then-contains.branch [
      | then-contains-via-then-contains w ↦ collects_bound c.args.self.now.bound.items c.args.self.now.met c.args.x (rw (← c.deref.ensures.value) (sym c.contains.ensures.value ∙ w.if-contains.true))
      | then-contains-via-else-contains+then-contains-2 w ↦ collects_free c.args.self.now.bound.items c.args.self.now.met c.args.self.now.met c.args.x
          (rw (← c.deref.ensures.value) (sym c.contains.ensures.value ∙ w.if-contains.false)) (collects_known c.args.self.now.met c.args.x (rw (← w.as_slice.ensures) (sym w.contains-else-contains.ensures.value ∙ w.if-contains-2.true)))
    ]

pub returns-clause-met : goal.returns-clause-met
returns-clause-met c =
    on_ok_weaker c.push.result
    (λ pushed. rw pushed (collects_free c.args.self.now.bound.items c.args.self.now.met _ c.args.x
    (rw (← c.deref.ensures.value) (sym c.contains.ensures.value ∙ c.if-contains.false)) (collects_new c.args.self.now.met c.args.x (rw (← c.as_slice.ensures) (sym c.contains-else-contains.ensures.value ∙ c.if-contains-2.false)))))
    c.push.ensures.ok
