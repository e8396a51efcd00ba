use Rattle.std.proofs.Common.{◌≡◌, arith, codes}
use Rattle.std.proofs.lemmas.Result.{on_ok_weaker}
use Rattle.formula_grammar.specs.Written.{variable}
use Rattle.formula_printer.specs.Texts.{term_text}
use Rattle.generator.specs.Generated.{drawn_leaf, one_variable, other_leaves, constant}
use Rattle.generator.proofs.Parts.{wrote_choice, wrote_it}
use Rattle.generator.proofs.terms.write_leaf.Goals as goal

pub returns-in-0 : goal.returns-in-0
unfolding drawn_leaf
returns-in-0 c =
    on_ok_weaker c.push.result (λ e. wrote_choice term_text one_variable other_leaves _ _ _ 0 _ _ _ c.draw.ensures.next_state c.draw.ensures.number c.in-0.is
    (wrote_it term_text (variable (codes "X")) _ _ _ e)) c.push.ensures

pub returns-in-1 : goal.returns-in-1
unfolding drawn_leaf
returns-in-1 c =
    on_ok_weaker c.push-in-1.result (λ e. wrote_choice term_text one_variable other_leaves _ _ _ 1 _ _ _ c.draw.ensures.next_state c.draw.ensures.number c.in-1.is
    (wrote_it term_text (variable (codes "Y")) _ _ _ e)) c.push-in-1.ensures

pub returns-in-2 : goal.returns-in-2
unfolding drawn_leaf
returns-in-2 c =
    on_ok_weaker c.push-in-2.result (λ e. wrote_choice term_text one_variable other_leaves _ _ _ 2 _ _ _ c.draw.ensures.next_state c.draw.ensures.number c.in-2.is
    (wrote_it term_text (variable (codes "Z")) _ _ _ e)) c.push-in-2.ensures

pub returns-in_default : goal.returns-in_default
unfolding drawn_leaf
returns-in_default c =
    let last : c.draw.result ≡ 3 = omega (arith, c.draw.ensures.below) in
    on_ok_weaker c.push-in_default.result (λ e. wrote_choice term_text one_variable other_leaves _ _ _ 3 _ _ _ c.draw.ensures.next_state c.draw.ensures.number last
    (wrote_it term_text constant _ _ _ e)) c.push-in_default.ensures
