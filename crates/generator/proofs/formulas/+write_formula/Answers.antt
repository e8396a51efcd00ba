use Rattle.std.proofs.Common.{◌≡◌, ◌-◌, arith, codes}
use Rattle.std.proofs.lemmas.Result.{on_ok_weaker}
use Rattle.formula_grammar.specs.Written.{and, or, exists, forall}
use Rattle.formula_printer.specs.Texts.{text_of}
use Rattle.generator.specs.Generated.{drawn_variable, drawn_formula, negation, joint, quantifier}
use Rattle.generator.proofs.Parts.{wrote_made, wrote_two}
use Rattle.generator.proofs.PartTexts.{negation-text, and-text, or-text, exists-text, forall-text}
use Rattle.generator.proofs.Depths.{wrote_atom, wrote_formula}
use Rattle.generator.proofs.formulas.+write_formula.Goals as goal

pub returns-then-depth-eq0 : goal.returns-then-depth-eq0
returns-then-depth-eq0 t c = on_ok_weaker c.write_atom.result (λ w. wrote_atom _ _ _ _ _ c.if-depth-eq0.true w) c.write_atom.ensures

pub returns-in-0 : goal.returns-in-0
returns-in-0 t c =
    on_ok_weaker c.write_atom-in-0.result (λ w. wrote_formula _ _ _ _ 0 _ _ _ c.if-depth-eq0.false c.draw.ensures.next_state c.draw.ensures.number c.in-0.is w) c.write_atom-in-0.ensures

pub returns-in_ok-write_formula-in-1 : goal.returns-in_ok-write_formula-in-1
returns-in_ok-write_formula-in-1 t c =
    on_ok_weaker c.push-in-1.result (λ e. wrote_formula _ _ _ _ 1 _ _ _ c.if-depth-eq0.false c.draw.ensures.next_state c.draw.ensures.number c.in-1.is
    (wrote_made text_of text_of negation (drawn_formula (c.args.depth - 1)) (codes "~(") (codes ")") _ _ _ _ _ _ negation-text
    c.in_ok-push-in-1.ensures c.in_ok-write_formula-in-1.ensures e)) c.push-in-1.ensures

pub returns-in_ok-write_formula-in-2-2 : goal.returns-in_ok-write_formula-in-2-2
returns-in_ok-write_formula-in-2-2 t c =
    on_ok_weaker c.push-in-2-3.result (λ e. wrote_formula _ _ _ _ 2 _ _ _ c.if-depth-eq0.false c.draw.ensures.next_state c.draw.ensures.number c.in-2.is
    (wrote_two text_of text_of text_of (joint and) (drawn_formula (c.args.depth - 1)) (drawn_formula (c.args.depth - 1)) (codes "(") (codes ") & (") (codes ")") _ _ _ _ _ _ _ _ _ and-text
    c.in_ok-push-in-2.ensures c.in_ok-write_formula-in-2.ensures c.in_ok-push-in-2-2.ensures c.in_ok-write_formula-in-2-2.ensures e)) c.push-in-2-3.ensures

pub returns-in_ok-write_formula-in-3-2 : goal.returns-in_ok-write_formula-in-3-2
returns-in_ok-write_formula-in-3-2 t c =
    on_ok_weaker c.push-in-3-3.result (λ e. wrote_formula _ _ _ _ 3 _ _ _ c.if-depth-eq0.false c.draw.ensures.next_state c.draw.ensures.number c.in-3.is
    (wrote_two text_of text_of text_of (joint or) (drawn_formula (c.args.depth - 1)) (drawn_formula (c.args.depth - 1)) (codes "(") (codes ") | (") (codes ")") _ _ _ _ _ _ _ _ _ or-text
    c.in_ok-push-in-3.ensures c.in_ok-write_formula-in-3.ensures c.in_ok-push-in-3-2.ensures c.in_ok-write_formula-in-3-2.ensures e)) c.push-in-3-3.ensures

pub returns-in_ok-write_formula-in-4 : goal.returns-in_ok-write_formula-in-4
returns-in_ok-write_formula-in-4 t c =
    on_ok_weaker c.push-in-4-3.result (λ e. wrote_formula _ _ _ _ 4 _ _ _ c.if-depth-eq0.false c.draw.ensures.next_state c.draw.ensures.number c.in-4.is
    (wrote_two (λ x. x) text_of text_of (quantifier exists) drawn_variable (drawn_formula (c.args.depth - 1)) (codes "exists ") (codes ": (") (codes ")") _ _ _ _ _ _ _ _ _ exists-text
    c.in_ok-push-in-4.ensures c.in_ok-write_variable-in-4.ensures c.in_ok-push-in-4-2.ensures c.in_ok-write_formula-in-4.ensures e)) c.push-in-4-3.ensures

pub returns-in_ok-write_formula-in_default : goal.returns-in_ok-write_formula-in_default
returns-in_ok-write_formula-in_default t c =
    let last : c.draw.result ≡ 5 = omega (arith, c.draw.ensures.below) in
    on_ok_weaker c.push-in_default-3.result (λ e. wrote_formula _ _ _ _ 5 _ _ _ c.if-depth-eq0.false c.draw.ensures.next_state c.draw.ensures.number last
    (wrote_two (λ x. x) text_of text_of (quantifier forall) drawn_variable (drawn_formula (c.args.depth - 1)) (codes "forall ") (codes ": (") (codes ")") _ _ _ _ _ _ _ _ _ forall-text
    c.in_ok-push-in_default.ensures c.in_ok-write_variable-in_default.ensures c.in_ok-push-in_default-2.ensures c.in_ok-write_formula-in_default.ensures e)) c.push-in_default-3.ensures
