use Rattle.explicit_form.proofs.Sides.{left_pair, right_pair, same_terms}
use Rattle.explicit_form.proofs.Truth.{nope, turned, it_is, with_first, without_first}
use Rattle.explicit_form.proofs.terms.have_same_term.Goals as goal

pub returns-in-Var : goal.returns-in-Var
returns-in-Var c = nope (left_pair c.args.t.now c.args.s.now _ _ c.in-Var.is)

pub returns-in-Var-r : goal.returns-in-Var-r
returns-in-Var-r c = nope (right_pair c.args.t.now c.args.s.now c.args.u.now c.args.r.now _ _ _ c.in-App.is c.in-Var-r.is)

pub returns-then-is_same_symbol : goal.returns-then-is_same_symbol
returns-then-is_same_symbol c =
    with_first c.are_same.result c.are_same.ensures (it_is c.is_same_symbol.result c.is_same_symbol.ensures c.if-is_same_symbol.true)
    (turned (same_terms c.args.t.now c.args.s.now c.args.u.now c.args.r.now _ _ _ _ c.in-App.is c.in-App-r.is))

pub returns-else-is_same_symbol : goal.returns-else-is_same_symbol
returns-else-is_same_symbol c =
    without_first c.is_same_symbol.result c.is_same_symbol.ensures c.if-is_same_symbol.false
    (turned (same_terms c.args.t.now c.args.s.now c.args.u.now c.args.r.now _ _ _ _ c.in-App.is c.in-App-r.is))
