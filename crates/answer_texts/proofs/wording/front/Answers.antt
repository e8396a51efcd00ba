use Rattle.std.proofs.Common.{◌++◌, ◌∷◌, [], List, ℕ, sym, ap, ◌∙◌, take}
use Rattle.formula_ast.proofs.Lists.{take_more_got}
use Rattle.answer_texts.proofs.wording.front.Goals as goal

pub loop-place-preserved : goal.loop-place-preserved
loop-place-preserved c =
    c.in_ok-push.ensures.ok
    ∙ ap (λ (found : List (List ℕ)). found ++ c.in_ok-copy.field-0 ∷ []) c.loop-place.invariant
    ∙ ap (λ (name : List ℕ). take c.loop-place.place c.args.names.now ++ name ∷ []) c.in_ok-copy.ensures
    ∙ sym (take_more_got c.args.names.now c.loop-place.place _ c.get.ensures)
