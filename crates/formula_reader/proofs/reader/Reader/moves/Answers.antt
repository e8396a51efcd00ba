use Rattle.std.proofs.Common.{◌∷◌, [], refl, sym, ap, ◌∙◌, arith}
use Rattle.formula_ast.specs.declared.token.TokenKind.TheVariants as k
use Rattle.formula_grammar.specs.Machine as m
use Rattle.formula_grammar.specs.Checks.{check, start, value_of}
use Rattle.formula_reader.specs.Input.{text_ahead, environment}
use Rattle.formula_reader.proofs.Steps.{words_taken, took_in, stopped_in, refused_here, refused_as, blocked, failed, within}
use Rattle.formula_reader.proofs.reader.Reader.moves.Goals as goal

pub returns-then-not-sees : goal.returns-then-not-sees
returns-then-not-sees c = λ σ s.
    let x = m.one k.Number (λ n. m.counts n ∷ []) in
    refused_as _ _ c.fault.ensures (refused_here σ c.args.self.now x refl (blocked k.Number c.args.self.now x (sym c.if-not-sees.ensures) (λ t no. rw no refl)) s)

pub returns-in_err-take : goal.returns-in_err-take
returns-in_err-take c = λ σ.
    let old = c.args.self.now in
    let E = environment σ old.joints in
    failed _ _ _ old _ _ c.from_residual.ensures.1
    (stopped_in k.Number old (sym c.if-not-sees.ensures) σ _ c.in_err-take.ensures.stops (m.one k.Number (λ n. m.counts n ∷ [])) (m.counts (text_ahead old)) [] refl
    (c.counts.ensures E ∙ ap (λ f. check E (m.counts f)) c.text-digits.ensures))

pub returns : goal.returns
returns c = λ σ.
    let old = c.args.self.now in
    let E = environment σ old.joints in
    let took = c.in_ok-take.ensures in
    record {
      digits = text_ahead old;
      word_is = record {
        faults = took_in k.Number (sym c.if-not-sees.ensures) took.takes σ σ (m.one k.Number (λ n. m.counts n ∷ [])) (m.counts (text_ahead old)) [] refl
            (c.counts.ensures E ∙ ap (λ f. check E (m.counts f)) c.text-digits.ensures) (ap (environment σ) (sym took.joints));
        words = words_taken k.Number (sym c.if-not-sees.ensures) took.takes;
        keeps = took.keeps;
        bytes = took.takes.bytes;
        on = took.takes.on;
      };
      is = c.in-Some.ensures ∙ ap value_of (c.as_bytes.ensures.value ∙ c.text-digits.ensures);
    }

pub unreachable-requires : goal.unreachable-requires
unreachable-requires c =
    let few = within _ _ (value_of c.text-digits.result.now) 1000 (c.counts.ensures (start [])) c.in_ok-take.ensures.takes.right in
    let same = ap value_of c.as_bytes.ensures.value in
    omega (arith, few, c.in-None.ensures, same)
