use Rattle.std.proofs.Common.{arith}
use Rattle.lists.proofs.Items.{item_stands}
use Rattle.std.proofs.lemmas.Result.{on_ok_weaker}
use Rattle.formula_ast.specs.Occurrences.{indexes_in}
use Rattle.formula_ast.specs.Terms.{list_of}
use Rattle.formula_ast.proofs.Collected.{collects_none, collects_then}
use Rattle.formula_ast.proofs.Occurring.{indexes-var, indexes-app, flat_map-got}
use Rattle.formula_ast.proofs.index.+index.Goals as goal

pub of_term-returns-in-Var : goal.of_term-returns-in-Var
of_term-returns-in-Var t c = rw (c.in-Var.is, indexes-var) (collects_none c.args.met.now.items)

pub of_term-returns-in_ok-of_symbol-in-App : goal.of_term-returns-in_ok-of_symbol-in-App
of_term-returns-in_ok-of_symbol-in-App t c =
    rw (c.in-App.is, indexes-app) (on_ok_weaker c.of_terms.result (λ later. collects_then c.in_ok-of_symbol-in-App.ensures later) c.of_terms.ensures)

pub of_terms-loop-t-preserved : goal.of_terms-loop-t-preserved
of_terms-loop-t-preserved t c =
    rw (flat_map-got indexes_in (list_of c.args.ts.now) c.loop-t.t-index c.t-item.result (item_stands _ _ _ _ c.as_slice-t-items.ensures (omega arith) c.t-item.is))
    (collects_then c.loop-t.invariant c.in_ok-of_term.ensures)
