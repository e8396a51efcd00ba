use Rattle.formula_ast.specs.Forms.{form_of}
use Rattle.explicit_form.specs.Pieces.{Fits}
use Rattle.explicit_form.proofs.Fitting.{pair_is, term_is}
use Rattle.explicit_form.proofs.Truth.{along, it_is, with_first, without_first}
use Rattle.explicit_form.proofs.blocks.equation_fits.Goals as goal

pub returns-in-Var : goal.returns-in-Var
returns-in-Var c =
    along c.pair_fits.result c.pair_fits.ensures
    (pair_is (Fits c.args.free (form_of c.args.outer.now) (form_of c.args.inner.now)) c.args.t.now c.args.s.now c.variable_in-u.result c.in-Var.v c.variable_in-u.ensures c.in-Var.is)

pub returns-then-is_term_placed : goal.returns-then-is_term_placed
returns-then-is_term_placed c =
    with_first c.is_term_new.result c.is_term_new.ensures (it_is c.is_term_placed.result c.is_term_placed.ensures c.if-is_term_placed.true)
    (term_is c.args.free (form_of c.args.outer.now) (form_of c.args.inner.now) c.args.t.now c.args.s.now c.variable_in-u.result _ c.in-App.ts c.variable_in-u.ensures c.in-App.is)

pub returns-else-is_term_placed : goal.returns-else-is_term_placed
returns-else-is_term_placed c =
    without_first c.is_term_placed.result c.is_term_placed.ensures c.if-is_term_placed.false
    (term_is c.args.free (form_of c.args.outer.now) (form_of c.args.inner.now) c.args.t.now c.args.s.now c.variable_in-u.result _ c.in-App.ts c.variable_in-u.ensures c.in-App.is)
