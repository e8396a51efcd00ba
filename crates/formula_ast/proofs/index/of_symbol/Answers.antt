use Rattle.std.proofs.Common.{sym, ◌∙◌}
use Rattle.formula_ast.proofs.Collected.{collects_known, collects_new}
use Rattle.formula_ast.proofs.index.of_symbol.Goals as goal

pub returns-then-contains : goal.returns-then-contains
returns-then-contains c =
    rw c.in-Further.is (collects_known c.args.met.now.items c.in-Further.k (rw (← c.deref.ensures.value) (sym c.contains.ensures.value ∙ c.if-contains.true)))

pub returns : goal.returns
returns c =
    rw (c.in-Further.is, c.in_ok-push.ensures.items)
    (collects_new c.args.met.now.items c.in-Further.k (rw (← c.deref.ensures.value) (sym c.contains.ensures.value ∙ c.if-contains.false)))
