use Rattle.std.proofs.Common.{◌∷◌, [], ◌++◌, take, ap, sym, ◌∙◌, append_assoc, arith}
use Rattle.lists.proofs.Items.{item_stands}
use Rattle.formula_ast.proofs.Lists.{take_more_got}
use Rattle.formula_printer.proofs.bound.add_copies.Goals as goal

pub loop-name-preserved : goal.loop-name-preserved
loop-name-preserved c =
    let name = c.name-item.result in
    let before = take c.loop-name.name-index c.args.names.now in
    let got = item_stands _ c.args.names.now _ _ c.as_slice-name-items.ensures (omega arith) c.name-item.is in
    c.in_ok-push.ensures.ok ∙ ap (λ copy. c.loop-name.found ++ copy ∷ []) c.in_ok-copy.ensures
    ∙ ap (λ l. l ++ name ∷ []) c.loop-name.invariant
    ∙ append_assoc c.args.found.now before (name ∷ [])
    ∙ ap (λ l. c.args.found.now ++ l) (sym (take_more_got c.args.names.now c.loop-name.name-index name got))
