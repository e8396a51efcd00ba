use Rattle.std.proofs.Common.{arith, append-nil, sym, ap, ◌∙◌}
use Rattle.lists.proofs.Items.{item_stands}
use Rattle.formula_ast.specs.Terms.{list_of}
use Rattle.flattening.specs.Plain.{term_of}
use Rattle.flattening.proofs.Steps.{deeper_more, deeper_count, application_added}
use Rattle.flattening.proofs.Ties.{rest_terms, variable_term, applied_term}
use Rattle.flattening.proofs.terms.+equations.Goals as goal

pub add_deeper-loop-term-preserved : goal.add_deeper-loop-term-preserved
add_deeper-loop-term-preserved t c =
    let e = rest_terms (list_of c.args.terms.now) c.loop-term.term-index c.term-item.result (item_stands _ _ _ _ c.as_slice-term-items.ensures (omega arith) c.term-item.is) in (
      deeper_more _ _ _ _ _ _ _ _ _ _ _ e c.loop-term.invariant.0 c.in_ok-after.ensures.atoms c.in_ok-after.ensures.after c.in_ok-left.ensures,
      deeper_count _ _ _ _ _ _ _ e c.loop-term.invariant.1 c.in_ok-after.ensures.after,
    )

pub add_equations-returns-in-Var-clause-atoms : goal.add_equations-returns-in-Var-clause-atoms
add_equations-returns-in-Var-clause-atoms t c = rw (c.in-Var.is, variable_term c.in-Var.field-0) (sym (append-nil _))

pub add_equations-returns-in_ok-after-in-App-clause-atoms : goal.add_equations-returns-in_ok-after-in-App-clause-atoms
add_equations-returns-in_ok-after-in-App-clause-atoms t c =
    application_added _ _ _ _ _ _ _ _ _ _ _ (ap term_of c.in-App.is ∙ applied_term c.in-App.symbol c.in-App.terms)
    c.in_ok-args-in-App.ensures.0 c.in_ok-args-in-App.ensures.1 c.in_ok-push-in-App.ensures.ok c.in_ok-after-in-App.ensures.atoms
