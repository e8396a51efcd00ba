use Rattle.std.proofs.Common.{sym}
use Rattle.std.proofs.lemmas.Bool.{eqb-true, eq-eqb}
use Rattle.explicit_form.proofs.Sides.{same_vars, var_app, same_apps}
use Rattle.explicit_form.proofs.Truth.{nope, it_is, with_first, without_first}
use Rattle.explicit_form.proofs.terms.is_same_term.Goals as goal

pub returns-in-Var-s : goal.returns-in-Var-s
returns-in-Var-s c = λ left right.
    let same = same_vars c.args.t.now c.args.s.now c.in-Var.v c.in-Var-s.u c.in-Var.is c.in-Var-s.is in
    (λ t. same.0 (eqb-true c.in-Var.v c.in-Var-s.u t), λ e. eq-eqb c.in-Var.v c.in-Var-s.u (same.1 e))

pub returns-in-App-s : goal.returns-in-App-s
returns-in-App-s c = λ left right. nope (var_app c.args.t.now c.args.s.now _ _ _ c.in-Var.is c.in-App-s.is)

pub returns-in-Var-s-2 : goal.returns-in-Var-s-2
returns-in-Var-s-2 c = λ left right. nope (λ e. var_app c.args.s.now c.args.t.now _ _ _ c.in-Var-s-2.is c.in-App.is (sym e))

pub returns-then-is_same_symbol : goal.returns-then-is_same_symbol
returns-then-is_same_symbol c = λ left right.
    with_first c.are_same.result c.are_same.ensures (it_is c.is_same_symbol.result c.is_same_symbol.ensures c.if-is_same_symbol.true)
    (same_apps c.args.t.now c.args.s.now _ _ _ _ c.in-App.is c.in-App-s-2.is left right)

pub returns-else-is_same_symbol : goal.returns-else-is_same_symbol
returns-else-is_same_symbol c = λ left right.
    without_first c.is_same_symbol.result c.is_same_symbol.ensures c.if-is_same_symbol.false
    (same_apps c.args.t.now c.args.s.now _ _ _ _ c.in-App.is c.in-App-s-2.is left right)
