use Rattle.std.proofs.Common.{◌≡◌, ◌++◌, arith, codes}
use Rattle.std.proofs.lemmas.Result.{on_ok_weaker}
use Rattle.formula_grammar.specs.Written.{variable}
use Rattle.formula_printer.specs.Texts.{term_text}
use Rattle.generator.specs.Generated.{drawn_leaf, drawn_term, one_variable, other_leaves, nodes, constant, one_argument, two_arguments}
use Rattle.generator.proofs.Parts.{wrote_choice, wrote_it, wrote_made, wrote_two}
use Rattle.generator.proofs.PartTexts.{one_argument-text, two_arguments-text}
use Rattle.generator.proofs.terms.write_term.Goals as goal

pub returns-in-0 : goal.returns-in-0
unfolding drawn_term
returns-in-0 c =
    on_ok_weaker c.push.result (λ e. wrote_choice term_text one_variable (other_leaves ++ nodes) _ _ _ 0 _ _ _ c.draw.ensures.next_state c.draw.ensures.number c.in-0.is
    (wrote_it term_text (variable (codes "X")) _ _ _ e)) c.push.ensures

pub returns-in-1 : goal.returns-in-1
unfolding drawn_term
returns-in-1 c =
    on_ok_weaker c.push-in-1.result (λ e. wrote_choice term_text one_variable (other_leaves ++ nodes) _ _ _ 1 _ _ _ c.draw.ensures.next_state c.draw.ensures.number c.in-1.is
    (wrote_it term_text (variable (codes "Y")) _ _ _ e)) c.push-in-1.ensures

pub returns-in-2 : goal.returns-in-2
unfolding drawn_term
returns-in-2 c =
    on_ok_weaker c.push-in-2.result (λ e. wrote_choice term_text one_variable (other_leaves ++ nodes) _ _ _ 2 _ _ _ c.draw.ensures.next_state c.draw.ensures.number c.in-2.is
    (wrote_it term_text (variable (codes "Z")) _ _ _ e)) c.push-in-2.ensures

pub returns-in-3 : goal.returns-in-3
unfolding drawn_term
returns-in-3 c =
    on_ok_weaker c.push-in-3.result (λ e. wrote_choice term_text one_variable (other_leaves ++ nodes) _ _ _ 3 _ _ _ c.draw.ensures.next_state c.draw.ensures.number c.in-3.is
    (wrote_it term_text constant _ _ _ e)) c.push-in-3.ensures

pub returns-in_ok-write_leaf-in-4 : goal.returns-in_ok-write_leaf-in-4
unfolding drawn_term
returns-in_ok-write_leaf-in-4 c =
    on_ok_weaker c.push-in-4-2.result (λ e. wrote_choice term_text one_variable (other_leaves ++ nodes) _ _ _ 4 _ _ _ c.draw.ensures.next_state c.draw.ensures.number c.in-4.is
    (wrote_made term_text term_text one_argument drawn_leaf (codes "f(") (codes ")") _ _ _ _ _ _ one_argument-text
    c.in_ok-push-in-4.ensures c.in_ok-write_leaf-in-4.ensures e)) c.push-in-4-2.ensures

pub returns-in_ok-write_leaf-in_default-2 : goal.returns-in_ok-write_leaf-in_default-2
unfolding drawn_term
returns-in_ok-write_leaf-in_default-2 c =
    let last : c.draw.result ≡ 5 = omega (arith, c.draw.ensures.below) in
    on_ok_weaker c.push-in_default-3.result (λ e. wrote_choice term_text one_variable (other_leaves ++ nodes) _ _ _ 5 _ _ _ c.draw.ensures.next_state c.draw.ensures.number last
    (wrote_two term_text term_text term_text two_arguments drawn_leaf drawn_leaf (codes "g(") (codes ", ") (codes ")") _ _ _ _ _ _ _ _ _ two_arguments-text
    c.in_ok-push-in_default.ensures c.in_ok-write_leaf-in_default.ensures c.in_ok-push-in_default-2.ensures c.in_ok-write_leaf-in_default-2.ensures e))
    c.push-in_default-3.ensures
