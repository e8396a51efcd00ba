use Rattle.std.proofs.lemmas.Result.{on_ok_weaker}
use Rattle.formula_ast.proofs.Collected.{collects_none, collects_then}
use Rattle.formula_ast.proofs.Occurring.{indexes_of_nothing, indexes_of_pair, indexes_of_term, indexes_of_call, indexes_of_one, indexes_of_both}
use Rattle.formula_ast.proofs.index.+of_formula.Goals as goal

pub returns-in-Call : goal.returns-in-Call
returns-in-Call t c = rw (indexes_of_call c.args.f.now c.in-Call.field-0 c.in-Call.ts c.in-Call.is) c.of_terms.ensures

pub returns-in-True : goal.returns-in-True
returns-in-True t c = rw (indexes_of_nothing c.args.f.now c.in-True.is) (collects_none c.args.met.now.items)

pub returns-in-True-2 : goal.returns-in-True-2
returns-in-True-2 t c = rw (indexes_of_nothing c.args.f.now c.in-True.is) (collects_none c.args.met.now.items)

pub returns-in_ok-of_formula-in-And : goal.returns-in_ok-of_formula-in-And
returns-in_ok-of_formula-in-And t c =
    let joined = indexes_of_both c.args.f.now c.get.result.now c.get-in-And.result.now (rw (c.get.ensures, c.get-in-And.ensures) c.in-And.is) in
    rw joined (on_ok_weaker c.of_formula-in-And.result (λ later. collects_then c.in_ok-of_formula-in-And.ensures later) c.of_formula-in-And.ensures)

pub returns-in-Not : goal.returns-in-Not
returns-in-Not t c = rw (indexes_of_one c.args.f.now c.get-in-Not.result.now (rw c.get-in-Not.ensures c.in-Not.is)) c.of_formula-in-Not.ensures

pub returns-in-Finite : goal.returns-in-Finite
returns-in-Finite t c = rw (indexes_of_term c.args.f.now c.in-Finite.t c.in-Finite.is) c.of_term.ensures

pub returns-in-Eq : goal.returns-in-Eq
returns-in-Eq t c = rw (indexes_of_pair c.args.f.now c.in-Eq.t c.in-Eq.s c.in-Eq.is) c.of_pair.ensures
