use Rattle.std.proofs.Common.{rules}
use Rattle.formula_ast.specs.Forms.{form_of}
use Rattle.formula_printer.specs.Printable.{FormFits}
use Rattle.formula_printer.proofs.Checked.{on_true, nothing_fits, pair_fits_in, finite_fits_in, call_fits_in, win_fits_in, not_fits_in, both_fit_in, body_fits_in}
use Rattle.formula_printer.proofs.checks.+formula_fits.Goals as goal

pub returns-in-True : goal.returns-in-True
returns-in-True t c = nothing_fits c.args.sig.now c.args.n c.args.f.now c.in-True.is

pub returns-in-True-2 : goal.returns-in-True-2
returns-in-True-2 t c = nothing_fits c.args.sig.now c.args.n c.args.f.now c.in-True.is

pub returns-in-Eq : goal.returns-in-Eq
returns-in-Eq t c = on_true c.pair_fits.result (pair_fits_in c.args.sig.now c.args.n c.args.f.now c.in-Eq.t c.in-Eq.u c.in-Eq.is) c.pair_fits.ensures

pub returns-in-Finite : goal.returns-in-Finite
returns-in-Finite t c = on_true c.term_fits.result (finite_fits_in c.args.sig.now c.args.n c.args.f.now c.in-Finite.t c.in-Finite.is) c.term_fits.ensures

pub returns-in-Call : goal.returns-in-Call
returns-in-Call t c = on_true c.call_fits.result (call_fits_in c.args.sig.now c.args.n c.args.f.now c.in-Call.p c.in-Call.ts c.in-Call.is) c.call_fits.ensures

pub returns-in-Win : goal.returns-in-Win
returns-in-Win t c = on_true c.win_fits.result (win_fits_in c.args.sig.now c.args.n c.args.f.now c.in-Win.p c.in-Win.field-1 c.in-Win.t c.in-Win.is) c.win_fits.ensures

pub returns-in-Not : goal.returns-in-Not
returns-in-Not t c =
    on_true c.formula_fits.result (not_fits_in c.args.sig.now c.args.n c.args.f.now c.get.result.now (rw c.get.ensures c.in-Not.is)) c.formula_fits.ensures

pub returns-else-not-formula_fits : goal.returns-else-not-formula_fits
returns-else-not-formula_fits t c =
    let first : FormFits c.args.sig.now c.args.n (form_of c.get-in-And.result.now) = search (rules, c.formula_fits-in-And.ensures) in
    on_true c.formula_fits-in-And-2.result
    (both_fit_in c.args.sig.now c.args.n c.args.f.now c.get-in-And.result.now c.get-in-And-2.result.now (rw (c.get-in-And.ensures, c.get-in-And-2.ensures) c.in-And.is) first)
    c.formula_fits-in-And-2.ensures

pub returns-else-x-n : goal.returns-else-x-n
returns-else-x-n t c =
    on_true c.formula_fits-in-Exists.result
    (body_fits_in c.args.sig.now c.args.n c.args.f.now c.get-in-Exists.result.now c.in-Exists.x (rw c.get-in-Exists.ensures c.in-Exists.is) c.if-x-n.false)
    c.formula_fits-in-Exists.ensures
