use Rattle.std.proofs.Common.{◌∷◌, [], refl, sym, ap, ◌∙◌}
use Rattle.formula_ast.specs.declared.token.TokenKind.TheVariants as k
use Rattle.formula_grammar.specs.Machine as m
use Rattle.formula_grammar.specs.Checks.{check}
use Rattle.formula_grammar.specs.Meaning.{place_in}
use Rattle.formula_reader.specs.Input.{text_ahead, environment}
use Rattle.formula_reader.proofs.Steps.{words_taken, took_in, stopped_in, refused_here, refused_as, blocked, failed}
use Rattle.formula_reader.proofs.reader.Reader.game.Goals as goal

pub returns-then-not-sees : goal.returns-then-not-sees
returns-then-not-sees c = λ s.
    let x = m.one k.Name (λ p. m.plays p ∷ []) in
    refused_as _ _ c.fault.ensures (refused_here c.args.signature.now c.args.self.now x refl (blocked k.Name c.args.self.now x (sym c.if-not-sees.ensures) (λ t no. rw no refl)) s)

pub returns-in_err-take : goal.returns-in_err-take
returns-in_err-take c =
    let old = c.args.self.now in
    failed _ _ _ old _ _ c.from_residual.ensures.1
    (stopped_in k.Name old (sym c.if-not-sees.ensures) c.args.signature.now _ c.in_err-take.ensures.stops (m.one k.Name (λ p. m.plays p ∷ [])) (m.plays (text_ahead old)) [] refl
    (c.plays.ensures old.joints ∙ ap (λ f. check (environment c.args.signature.now old.joints) (m.plays f)) c.text-name.ensures))

pub returns : goal.returns
returns c =
    let old = c.args.self.now in
    let σ = c.args.signature.now in
    let took = c.in_ok-take.ensures in
    record {
      name = text_ahead old;
      word_is = record {
        faults = took_in k.Name (sym c.if-not-sees.ensures) took.takes σ σ (m.one k.Name (λ p. m.plays p ∷ [])) (m.plays (text_ahead old)) [] refl
            (c.plays.ensures old.joints ∙ ap (λ f. check (environment σ old.joints) (m.plays f)) c.text-name.ensures) (ap (environment σ) (sym took.joints));
        words = words_taken k.Name (sym c.if-not-sees.ensures) took.takes;
        keeps = took.keeps;
        bytes = took.takes.bytes;
        on = took.takes.on;
      };
      is = c.place_in.ensures ∙ ap (place_in σ) c.text-name.ensures;
    }
