use Rattle.formula_ast.specs.Forms.{form_of}
use Rattle.explicit_form.specs.Explicit.{Denied}
use Rattle.explicit_form.specs.Pieces.{bound_of, basic_of, equation}
use Rattle.explicit_form.specs.Shape.{IsBlock}
use Rattle.explicit_form.proofs.Arms.{parts_and, parts_body, parts_differ, parts_no, parts_nowhere}
use Rattle.explicit_form.proofs.Fitting.{equation_block, differ_binds}
use Rattle.explicit_form.proofs.Truth.{yes, along, it_is, with_first, without_first}
use Rattle.explicit_form.proofs.blocks.+parts_fit.Goals as goal

pub returns-then-parts_fit : goal.returns-then-parts_fit
returns-then-parts_fit t c =
    with_first c.parts_fit-then-parts_fit.result c.parts_fit-then-parts_fit.ensures (it_is c.parts_fit.result c.parts_fit.ensures c.if-parts_fit.true)
    (parts_and (λ (part : Denied). IsBlock c.args.free (basic_of (form_of c.args.cube.now)) (bound_of (form_of c.args.cube.now)) part.bound part.basic) c.args.f.now c.get.result.now c.get-then-parts_fit.result.now (rw (c.get.ensures, c.get-then-parts_fit.ensures) c.in-And.is))

pub returns-else-parts_fit : goal.returns-else-parts_fit
returns-else-parts_fit t c =
    without_first c.parts_fit.result c.parts_fit.ensures c.if-parts_fit.false (parts_and (λ (part : Denied). IsBlock c.args.free (basic_of (form_of c.args.cube.now)) (bound_of (form_of c.args.cube.now)) part.bound part.basic) c.args.f.now c.get.result.now c.in-And.h (rw c.get.ensures c.in-And.is))

pub returns-in-Exists : goal.returns-in-Exists
returns-in-Exists t c =
    along c.parts_fit-in-Exists.result c.parts_fit-in-Exists.ensures
    (parts_body (λ (part : Denied). IsBlock c.args.free (basic_of (form_of c.args.cube.now)) (bound_of (form_of c.args.cube.now)) part.bound part.basic) c.args.f.now c.in-Exists.field-0 c.get-in-Exists.result.now (rw c.get-in-Exists.ensures c.in-Exists.is))

pub returns-in-Differ : goal.returns-in-Differ
returns-in-Differ t c =
    along c.equation_fits.result
    (along c.equation_fits.result c.equation_fits.ensures
    (equation_block c.args.free (form_of c.args.cube.now) (form_of c.args.f.now) (equation c.in-Differ.t c.in-Differ.s) (differ_binds c.args.f.now c.in-Differ.t c.in-Differ.s c.in-Differ.is)))
    (parts_differ (λ (part : Denied). IsBlock c.args.free (basic_of (form_of c.args.cube.now)) (bound_of (form_of c.args.cube.now)) part.bound part.basic) c.args.f.now c.in-Differ.t c.in-Differ.s c.in-Differ.is)

pub returns-in-Not : goal.returns-in-Not
returns-in-Not t c = along c.is_block.result c.is_block.ensures (parts_no (λ (part : Denied). IsBlock c.args.free (basic_of (form_of c.args.cube.now)) (bound_of (form_of c.args.cube.now)) part.bound part.basic) c.args.f.now c.get-in-Not.result.now (rw c.get-in-Not.ensures c.in-Not.is))

pub returns-in_default : goal.returns-in_default
returns-in_default t c = yes (parts_nowhere (λ (part : Denied). IsBlock c.args.free (basic_of (form_of c.args.cube.now)) (bound_of (form_of c.args.cube.now)) part.bound part.basic) c.args.f.now c.in_default.not-And c.in_default.not-Exists c.in_default.not-Differ c.in_default.not-Not)
