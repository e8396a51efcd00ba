use Rattle.std.proofs.Common.{◌≡◌, take, arith, rules}
use Rattle.lists.proofs.Items.{item_stands, all_items}
use Rattle.formula_ast.specs.Terms.{list_of}
use Rattle.formula_printer.specs.Printable.{TermFits}
use Rattle.formula_printer.proofs.Checked.{one_more_item, on_true, on_less}
use Rattle.formula_printer.proofs.Layers.{variable_fits_in, application_fits_in}
use Rattle.formula_printer.proofs.checks.+fits.Goals as goal

pub term_fits-returns-in-Var : goal.term_fits-returns-in-Var
term_fits-returns-in-Var t c = on_less c.in-Var.x c.args.n (λ less. rw c.in-Var.is (variable_fits_in c.args.sig.now c.args.n c.in-Var.x less))

pub term_fits-returns-else-not-is_root : goal.term_fits-returns-else-not-is_root
term_fits-returns-else-not-is_root t c =
    on_true c.terms_fit.result
    (λ all. rw c.in-App.is (application_fits_in c.args.sig.now c.args.n c.in-App.symbol c.in-App.ts (search (rules, c.is_root.ensures)) all)) c.terms_fit.ensures

pub terms_fit-loop-t-preserved : goal.terms_fit-loop-t-preserved
terms_fit-loop-t-preserved t c =
    one_more_item (TermFits c.args.sig.now c.args.n) (list_of c.args.ts.now) c.loop-t.t-index c.t-item.result (item_stands _ _ _ _ c.as_slice-t-items.ensures (omega arith) c.t-item.is) c.loop-t.invariant (search (rules, c.term_fits.ensures))

pub terms_fit-returns : goal.terms_fit-returns
terms_fit-returns t c =
    let all : take c.loop-t.t-index (list_of c.args.ts.now) ≡ list_of c.args.ts.now = all_items _ _ _ c.as_slice-t-items.ensures (omega arith) in
    rw all at c.loop-t.invariant
