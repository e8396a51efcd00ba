use Rattle.std.proofs.Common.{List, ℕ, get_or, ap, sym, ◌≡◌, ◌<◌, length, take, arith, rules, ◌∙◌, append_assoc}
use Rattle.std.specs.Prelude.{map}
use Rattle.std.proofs.lemmas.List.{take_all, length-map}
use Rattle.std.proofs.lemmas.Result.{IfOk-equal}
use Rattle.formula_ast.specs.declared.term.Term.{Term}
use Rattle.formula_ast.specs.declared.term.Term.TheVariants as term
use Rattle.formula_printer.proofs.Assigned.{child_at}
use Rattle.formula_printer.proofs.Layers.{closed, opened_more, written-var}
use Rattle.formula_printer.proofs.assignment.write_application.Goals as goal

pub loop-i-preserved : goal.loop-i-preserved
loop-i-preserved c =
    let children = c.args.node.now.children in
    let child = get_or c.as_slice-child-items.result.now c.loop-i.i 0 in
    let within : c.loop-i.i < length children = omega (arith, ap (λ (z : List ℕ). length z) c.as_slice-child-items.ensures) in
    let got = child_at children c.loop-i.i child within (ap (λ (z : List ℕ). get_or z c.loop-i.i 0) c.as_slice-child-items.ensures) in
    rw (opened_more c.args.sig.now c.args.names.now (map (λ child. term.Var child) children) c.loop-i.i (term.Var child) got, written-var)
    (search (rules, append_assoc))

pub returns : goal.returns
returns c =
    let children : List Term = map (λ child. term.Var child) c.args.node.now.children in
    let size : length children ≡ length c.args.node.now.children = length-map c.args.node.now.children (λ child. term.Var child) in
    let some : ¬ (length children ≡ 0) = λ none. c.if-len-eq0.false (c.len.ensures ∙ sym size ∙ none) in
    let all : take c.loop-i.i children ≡ children = take_all c.loop-i.i children (omega (arith, size, ap (λ (z : List ℕ). length z) c.as_slice-child-items.ensures)) in
    let so_far = rw all at c.loop-i.invariant in
    rw (closed c.args.sig.now c.args.names.now children some)
    (search (rules, IfOk-equal, append_assoc, so_far))
