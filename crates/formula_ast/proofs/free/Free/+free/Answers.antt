use Rattle.std.proofs.Common.{refl}
use Rattle.formula_ast.specs.Occurrences.{variables_in}
use Rattle.lists.proofs.Items.{item_stands, all_items}
use Rattle.std.proofs.Common.{◌∙◌, arith}
use Rattle.formula_ast.specs.Terms.{list_of}
use Rattle.formula_ast.proofs.Collected.{nothing_met, both_met}
use Rattle.formula_ast.proofs.Occurring.{variables-var, variables-app, flat_map-got}
use Rattle.formula_ast.proofs.free.Free.+free.Goals as goal

pub term-returns-in-Var-clause-met : goal.term-returns-in-Var-clause-met
term-returns-in-Var-clause-met t c = rw (c.in-Var.is, variables-var) c.variable.ensures.met

pub term-returns-in-App-clause-met : goal.term-returns-in-App-clause-met
term-returns-in-App-clause-met t c = rw (c.in-App.is, variables-app) c.terms.ensures.met

pub terms-loop-t-init : goal.terms-loop-t-init
terms-loop-t-init t c = record { bound = refl; met = nothing_met c.args.self.now.bound.items c.args.self.now.met }

pub terms-loop-t-preserved : goal.terms-loop-t-preserved
terms-loop-t-preserved t c = record {
  bound = c.in_ok-term.ensures.bound ∙ c.loop-t.invariant.bound;
  met = rw (flat_map-got variables_in (list_of c.args.ts.now) c.loop-t.t-index c.t-item.result (item_stands _ _ _ _ c.as_slice-t-items.ensures (omega arith) c.t-item.is))
      (both_met c.args.self.now.bound.items _ _ c.loop-t.invariant.met (rw (← c.loop-t.invariant.bound) c.in_ok-term.ensures.met));
}

pub terms-returns-clause-bound : goal.terms-returns-clause-bound
terms-returns-clause-bound t c = c.loop-t.invariant.bound

pub terms-returns-clause-met : goal.terms-returns-clause-met
terms-returns-clause-met t c = rw (← all_items _ (list_of c.args.ts.now) c.loop-t.t-index c.as_slice-t-items.ensures (omega arith)) c.loop-t.invariant.met
