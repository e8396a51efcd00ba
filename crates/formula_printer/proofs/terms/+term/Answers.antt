use Rattle.std.proofs.Common.{◌≡◌, length, take, arith, subst, ◌∙◌, rules}
use Rattle.formula_ast.specs.Terms.{list_of}
use Rattle.formula_printer.specs.Printable.{TermFits}
use Rattle.lists.proofs.Items.{item_stands, all_items}
use Rattle.std.proofs.Common.{append_assoc}
use Rattle.std.proofs.lemmas.Result.{IfOk-equal}
use Rattle.formula_ast.specs.declared.term.Term.TheViews.{the_lemmas}
use Rattle.formula_printer.proofs.Layers.{closed, opened_more, variable_fits, symbol_fits, arguments_fit, written-var, written-app}
use Rattle.formula_printer.proofs.terms.+term.Goals as goal

pub write_term-write_variable-requires : goal.write_term-write_variable-requires
write_term-write_variable-requires t c =
    variable_fits c.args.sig.now (length c.args.names.now) c.in-Var.x (subst (TermFits c.args.sig.now (length c.args.names.now)) c.in-Var.is c.requires)

pub write_term-write_symbol-requires : goal.write_term-write_symbol-requires
write_term-write_symbol-requires t c =
    symbol_fits c.args.sig.now (length c.args.names.now) c.in-App.symbol c.in-App.ts (subst (TermFits c.args.sig.now (length c.args.names.now)) c.in-App.is c.requires)

pub write_term-write_arguments-requires : goal.write_term-write_arguments-requires
write_term-write_arguments-requires t c =
    let fits = arguments_fit c.args.sig.now (length c.args.names.now) c.in-App.symbol c.in-App.ts (subst (TermFits c.args.sig.now (length c.args.names.now)) c.in-App.is c.requires) in
    (search (rules, the_lemmas), fits)

pub write_term-returns-in-Var : goal.write_term-returns-in-Var
write_term-returns-in-Var t c = rw (c.in-Var.is, written-var) c.write_variable.ensures

pub write_term-returns-in_ok-write_symbol-in-App : goal.write_term-returns-in_ok-write_symbol-in-App
write_term-returns-in_ok-write_symbol-in-App t c =
    rw (c.in-App.is, written-app) (search (rules, IfOk-equal, append_assoc))

pub write_arguments-returns : goal.write_arguments-returns
write_arguments-returns t c =
    let some : ¬ (length (list_of c.args.ts.now) ≡ 0) = λ none. c.if-len-eq0.false (c.len.ensures ∙ none) in
    let all : take c.loop-i.i (list_of c.args.ts.now) ≡ list_of c.args.ts.now = all_items _ _ _ c.as_slice-t-items.ensures (omega arith) in
    let so_far = rw all at c.loop-i.invariant in
    rw (closed c.args.sig.now c.args.names.now (list_of c.args.ts.now) some) (search (rules, IfOk-equal, append_assoc, so_far))

pub write_arguments-loop-i-preserved : goal.write_arguments-loop-i-preserved
write_arguments-loop-i-preserved t c =
    rw (opened_more c.args.sig.now c.args.names.now (list_of c.args.ts.now) c.loop-i.i c.t-item.result (item_stands _ _ _ _ c.as_slice-t-items.ensures (omega arith) c.t-item.is)) (search (rules, append_assoc))
