use Rattle.std.proofs.Common.{◌≡◌, [], arith, codes, sym, append-nil}
use Rattle.std.proofs.lemmas.Result.{on_ok_weaker}
use Rattle.formula_grammar.specs.Written.{equals, differs, finite, compared}
use Rattle.formula_printer.specs.Texts.{term_text, text_of}
use Rattle.generator.specs.Generated.{drawn_term, drawn_atom, comparison, other_atoms}
use Rattle.generator.proofs.Parts.{wrote_choice, wrote_made, wrote_two}
use Rattle.generator.proofs.PartTexts.{equation-text, inequation-text, finite-text}
use Rattle.generator.proofs.formulas.write_atom.Goals as goal

pub returns-in_ok-push-in-0 : goal.returns-in_ok-push-in-0
unfolding drawn_atom
returns-in_ok-push-in-0 c =
    on_ok_weaker c.write_term-in-0.result (λ w. wrote_choice text_of (comparison equals) other_atoms _ _ _ 0 _ _ _ c.draw.ensures.next_state c.draw.ensures.number c.in-0.is
    (wrote_two term_text term_text text_of (compared equals) drawn_term drawn_term [] (codes " = ") [] _ _ _ _ _ _ _ _ _ equation-text
    (sym (append-nil _)) c.in_ok-write_term-in-0.ensures c.in_ok-push-in-0.ensures w (sym (append-nil _)))) c.write_term-in-0.ensures

pub returns-in_ok-push-in-1 : goal.returns-in_ok-push-in-1
unfolding drawn_atom
returns-in_ok-push-in-1 c =
    on_ok_weaker c.write_term-in-1-2.result (λ w. wrote_choice text_of (comparison equals) other_atoms _ _ _ 1 _ _ _ c.draw.ensures.next_state c.draw.ensures.number c.in-1.is
    (wrote_two term_text term_text text_of (compared differs) drawn_term drawn_term [] (codes " != ") [] _ _ _ _ _ _ _ _ _ inequation-text
    (sym (append-nil _)) c.in_ok-write_term-in-1.ensures c.in_ok-push-in-1.ensures w (sym (append-nil _)))) c.write_term-in-1-2.ensures

pub returns-in_ok-write_term-in_default : goal.returns-in_ok-write_term-in_default
unfolding drawn_atom
returns-in_ok-write_term-in_default c =
    let last : c.draw.result ≡ 2 = omega (arith, c.draw.ensures.below) in
    on_ok_weaker c.push-in_default-2.result (λ e. wrote_choice text_of (comparison equals) other_atoms _ _ _ 2 _ _ _ c.draw.ensures.next_state c.draw.ensures.number last
    (wrote_made term_text text_of finite drawn_term (codes "finite(") (codes ")") _ _ _ _ _ _ finite-text
    c.in_ok-push-in_default.ensures c.in_ok-write_term-in_default.ensures e)) c.push-in_default-2.ensures
