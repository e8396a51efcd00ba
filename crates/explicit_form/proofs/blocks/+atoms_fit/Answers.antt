use Rattle.formula_ast.specs.Forms.{form_of}
use Rattle.explicit_form.specs.Pieces.{Fits}
use Rattle.explicit_form.proofs.Arms.{all_and, all_body, all_equation, all_mark_at, all_nowhere}
use Rattle.explicit_form.proofs.Truth.{yes, along, it_is, with_first, without_first}
use Rattle.explicit_form.proofs.blocks.+atoms_fit.Goals as goal

pub returns-then-atoms_fit : goal.returns-then-atoms_fit
returns-then-atoms_fit t c =
    with_first c.atoms_fit-then-atoms_fit.result c.atoms_fit-then-atoms_fit.ensures (it_is c.atoms_fit.result c.atoms_fit.ensures c.if-atoms_fit.true)
    (all_and (Fits c.args.free (form_of c.args.outer.now) (form_of c.args.inner.now)) c.args.f.now c.get.result.now c.get-then-atoms_fit.result.now (rw (c.get.ensures, c.get-then-atoms_fit.ensures) c.in-And.is))

pub returns-else-atoms_fit : goal.returns-else-atoms_fit
returns-else-atoms_fit t c =
    without_first c.atoms_fit.result c.atoms_fit.ensures c.if-atoms_fit.false (all_and (Fits c.args.free (form_of c.args.outer.now) (form_of c.args.inner.now)) c.args.f.now c.get.result.now c.in-And.h (rw c.get.ensures c.in-And.is))

pub returns-in-Exists : goal.returns-in-Exists
returns-in-Exists t c =
    along c.atoms_fit-in-Exists.result c.atoms_fit-in-Exists.ensures
    (all_body (Fits c.args.free (form_of c.args.outer.now) (form_of c.args.inner.now)) c.args.f.now c.in-Exists.field-0 c.get-in-Exists.result.now (rw c.get-in-Exists.ensures c.in-Exists.is))

pub returns-in-Eq : goal.returns-in-Eq
returns-in-Eq t c = along c.equation_fits.result c.equation_fits.ensures (all_equation (Fits c.args.free (form_of c.args.outer.now) (form_of c.args.inner.now)) c.args.f.now c.in-Eq.t c.in-Eq.s c.in-Eq.is)

pub returns-in-Finite : goal.returns-in-Finite
returns-in-Finite t c = along c.mark_fits.result c.mark_fits.ensures (all_mark_at (Fits c.args.free (form_of c.args.outer.now) (form_of c.args.inner.now)) c.args.f.now c.in-Finite.t c.variable_in.result c.variable_in.ensures c.in-Finite.is)

pub returns-in_default : goal.returns-in_default
returns-in_default t c = yes (all_nowhere (Fits c.args.free (form_of c.args.outer.now) (form_of c.args.inner.now)) c.args.f.now c.in_default.not-And c.in_default.not-Exists c.in_default.not-Eq c.in_default.not-Finite)
