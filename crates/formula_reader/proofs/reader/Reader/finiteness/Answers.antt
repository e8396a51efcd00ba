use Rattle.std.proofs.Common.{◌∷◌, [], refl, sym, ap, ◌∙◌, arith}
use Rattle.formula_ast.proofs.Ties.{finite_form}
use Rattle.formula_ast.specs.declared.token.TokenKind.TheVariants as k
use Rattle.formula_grammar.specs.Written.{finite}
use Rattle.formula_grammar.specs.Words.{mark}
use Rattle.formula_grammar.specs.Machine as m
use Rattle.formula_reader.specs.Input.{place_of}
use Rattle.formula_reader.specs.Faults.{fault_of}
use Rattle.formula_reader.proofs.Steps.{words_taken, stopped_plain, failed, refusal}
use Rattle.formula_reader.proofs.Reading.{keeps_both}
use Rattle.formula_reader.proofs.AtomReading.{word_taken, both_taken, inner_place, wrapped_read}
use Rattle.formula_reader.proofs.reader.Reader.finiteness.Goals as goal

pub term-requires : goal.term-requires
term-requires c = (c.in_ok-inner.ensures c.args.signature.now).depth

pub returns-in_err-take : goal.returns-in_err-take
returns-in_err-take c =
    let old = c.args.self.now in
    let place = place_of old c.args.place in
    failed _ _ _ c.args.self.now _ _ c.from_residual.ensures.1
    (stopped_plain k.Finite old c.requires.starts _ _ c.in_err-take.ensures.stops (m.operand 5 place) (m.opening_paren place ∷ m.term (m.deeper place) ∷ m.plain k.RightParen ∷ []) refl)

pub returns-in_err-inner : goal.returns-in_err-inner
returns-in_err-inner c =
    let old = c.args.self.now in
    let rest = m.term (m.deeper (place_of old c.args.place)) ∷ m.plain k.RightParen ∷ [] in
    refusal _ _ _ c.args.self.now _ _ _ c.from_residual-in_err-inner.ensures.1
    (word_taken k.Finite c.args.signature.now old c.take.new.self c.args.place c.requires.starts c.in_ok-take.ensures.takes c.in_ok-take.ensures.keeps c.in_ok-take.ensures.joints rest refl)
    (λ s. c.in_err-inner.ensures c.args.signature.now (m.term (m.deeper (place_of old c.args.place)) ∷ m.plain k.RightParen ∷ s))

pub returns-in_err-term : goal.returns-in_err-term
returns-in_err-term c =
    let old = c.args.self.now in
    let σ = c.args.signature.now in
    let rest = m.term (m.deeper (place_of old c.args.place)) ∷ m.plain k.RightParen ∷ [] in
    let paren = c.in_ok-inner.ensures σ in
    refusal _ _ _ c.args.self.now _ _ _ c.from_residual-in_err-term.ensures.1
    (λ s. both_taken k.Finite σ old c.take.new.self c.args.place c.requires.starts c.in_ok-take.ensures.takes c.in_ok-take.ensures.keeps c.in_ok-take.ensures.joints rest refl paren s
    ∙ ap (λ p. fault_of σ c.opening.new.self (m.term p ∷ m.plain k.RightParen ∷ s)) (sym (inner_place c.in_ok-take.ensures.keeps paren)))
    (λ s. c.in_err-term.ensures (m.plain k.RightParen ∷ s))

pub returns-in_err-expect : goal.returns-in_err-expect
returns-in_err-expect c =
    let old = c.args.self.now in
    let σ = c.args.signature.now in
    let rest = m.term (m.deeper (place_of old c.args.place)) ∷ m.plain k.RightParen ∷ [] in
    let paren = c.in_ok-inner.ensures σ in
    refusal _ _ _ c.args.self.now _ _ _ c.from_residual-in_err-expect.ensures.1
    (λ s. both_taken k.Finite σ old c.take.new.self c.args.place c.requires.starts c.in_ok-take.ensures.takes c.in_ok-take.ensures.keeps c.in_ok-take.ensures.joints rest refl paren s
    ∙ ap (λ p. fault_of σ c.opening.new.self (m.term p ∷ m.plain k.RightParen ∷ s)) (sym (inner_place c.in_ok-take.ensures.keeps paren))
    ∙ c.in_ok-term.ensures.faults (m.plain k.RightParen ∷ s))
    (c.in_err-expect.ensures σ)

pub returns : goal.returns
returns c =
    let old = c.args.self.now in
    let σ = c.args.signature.now in
    let rest = m.term (m.deeper (place_of old c.args.place)) ∷ m.plain k.RightParen ∷ [] in
    let took = c.in_ok-take.ensures in
    let paren = c.in_ok-inner.ensures σ in
    let last = c.in_ok-expect.ensures σ in
    record {
      faults = λ s. both_taken k.Finite σ old c.take.new.self c.args.place c.requires.starts took.takes took.keeps took.joints rest refl paren s
          ∙ ap (λ p. fault_of σ c.opening.new.self (m.term p ∷ m.plain k.RightParen ∷ s)) (sym (inner_place took.keeps paren))
          ∙ c.in_ok-term.ensures.faults (m.plain k.RightParen ∷ s) ∙ last.faults s;
      read = wrapped_read (λ w. finite w) (λ w. refl) (keeps_both took.keeps paren.word_is.keeps) (paren.word_is.bytes ∙ took.takes.bytes)
          (omega (arith, took.takes.on, paren.word_is.on)) c.in_ok-term.ensures.read last
          (λ names w one. record { strong = omega arith; levelled = tt; stands = (c.in_ok-term.term, finite_form c.in_ok-term.term, one) })
          (λ w text. words_taken k.Finite c.requires.starts took.takes ∙ ap (λ ws. mark k.Finite ∷ ws) (paren.word_is.words ∙ ap (λ ws. mark k.LeftParen ∷ ws) text));
    }
