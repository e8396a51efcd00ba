use Rattle.std.proofs.Common.{◌∷◌, [], refl, sym, ap, ◌∙◌, arith}
use Rattle.formula_ast.proofs.Ties.{win_form}
use Rattle.formula_ast.specs.Forms as form
use Rattle.formula_ast.specs.declared.token.TokenKind.TheVariants as k
use Rattle.formula_grammar.specs.Written.{win}
use Rattle.formula_grammar.specs.Words.{mark, word}
use Rattle.formula_grammar.specs.Machine as m
use Rattle.formula_grammar.specs.Meaning.{place_in}
use Rattle.formula_reader.specs.Input.{place_of}
use Rattle.formula_reader.specs.Faults.{fault_of}
use Rattle.formula_reader.proofs.Steps.{words_taken, stopped_plain, failed, refusal}
use Rattle.formula_reader.proofs.Reading.{keeps_both}
use Rattle.formula_reader.proofs.TermReading.{at_inner}
use Rattle.formula_reader.proofs.AtomReading.{word_taken, both_taken, wrapped_read}
use Rattle.formula_reader.proofs.reader.Reader.winning.Goals as goal

-- what is expected behind the parenthesis, from the last symbol on
abbrev last : m.Stack → m.Stack
last s = m.plain k.RightParen ∷ s

abbrev term_last : m.Place → m.Stack → m.Stack
term_last place s = m.term (m.deeper place) ∷ last s

abbrev comma_last : m.Place → m.Stack → m.Stack
comma_last place s = m.plain k.Comma ∷ term_last place s

abbrev moves_last : m.Place → m.Stack → m.Stack
moves_last place s = m.one k.Number (λ n. m.counts n ∷ []) ∷ comma_last place s

abbrev commas_last : m.Place → m.Stack → m.Stack
commas_last place s = m.plain k.Comma ∷ moves_last place s

abbrev game_last : m.Place → m.Stack → m.Stack
game_last place s = m.one k.Name (λ p. m.plays p ∷ []) ∷ commas_last place s

pub term-requires : goal.term-requires
term-requires c = (c.in_ok-inner.ensures c.args.signature.now).depth

pub returns-in_err-take : goal.returns-in_err-take
returns-in_err-take c =
    let old = c.args.self.now in
    let place = place_of old c.args.place in
    failed _ _ _ c.args.self.now _ _ c.from_residual.ensures.1
    (stopped_plain k.Win old c.requires.starts _ _ c.in_err-take.ensures.stops (m.operand 5 place) (m.opening_paren place ∷ game_last place []) refl)

pub returns-in_err-inner : goal.returns-in_err-inner
returns-in_err-inner c =
    let old = c.args.self.now in
    let took = c.in_ok-take.ensures in
    let place = place_of old c.args.place in
    refusal _ _ _ c.args.self.now _ _ _ c.from_residual-in_err-inner.ensures.1
    (word_taken k.Win c.args.signature.now old c.take.new.self c.args.place c.requires.starts took.takes took.keeps took.joints (game_last place []) refl)
    (λ s. c.in_err-inner.ensures c.args.signature.now (game_last place s))

pub returns-in_err-predicate : goal.returns-in_err-predicate
returns-in_err-predicate c =
    let old = c.args.self.now in
    let σ = c.args.signature.now in
    let took = c.in_ok-take.ensures in
    let place = place_of old c.args.place in
    refusal _ _ _ c.args.self.now _ _ _ c.from_residual-in_err-predicate.ensures.1
    (λ s. both_taken k.Win σ old c.take.new.self c.args.place c.requires.starts took.takes took.keeps took.joints (game_last place []) refl (c.in_ok-inner.ensures σ) s)
    (λ s. c.in_err-predicate.ensures (commas_last place s))

pub returns-in_err-expect : goal.returns-in_err-expect
returns-in_err-expect c =
    let old = c.args.self.now in
    let σ = c.args.signature.now in
    let took = c.in_ok-take.ensures in
    let place = place_of old c.args.place in
    refusal _ _ _ c.args.self.now _ _ _ c.from_residual-in_err-expect.ensures.1
    (λ s. both_taken k.Win σ old c.take.new.self c.args.place c.requires.starts took.takes took.keeps took.joints (game_last place []) refl (c.in_ok-inner.ensures σ) s
    ∙ c.in_ok-predicate.ensures.word_is.faults (commas_last place s))
    (λ s. c.in_err-expect.ensures σ (moves_last place s))

pub returns-in_err-moves : goal.returns-in_err-moves
returns-in_err-moves c =
    let old = c.args.self.now in
    let σ = c.args.signature.now in
    let took = c.in_ok-take.ensures in
    let place = place_of old c.args.place in
    refusal _ _ _ c.args.self.now _ _ _ c.from_residual-in_err-moves.ensures.1
    (λ s. both_taken k.Win σ old c.take.new.self c.args.place c.requires.starts took.takes took.keeps took.joints (game_last place []) refl (c.in_ok-inner.ensures σ) s
    ∙ c.in_ok-predicate.ensures.word_is.faults (commas_last place s)
    ∙ (c.in_ok-expect.ensures σ).faults (moves_last place s))
    (λ s. c.in_err-moves.ensures σ (comma_last place s))

pub returns-in_err-expect-2 : goal.returns-in_err-expect-2
returns-in_err-expect-2 c =
    let old = c.args.self.now in
    let σ = c.args.signature.now in
    let took = c.in_ok-take.ensures in
    let place = place_of old c.args.place in
    refusal _ _ _ c.args.self.now _ _ _ c.from_residual-in_err-expect-2.ensures.1
    (λ s. both_taken k.Win σ old c.take.new.self c.args.place c.requires.starts took.takes took.keeps took.joints (game_last place []) refl (c.in_ok-inner.ensures σ) s
    ∙ c.in_ok-predicate.ensures.word_is.faults (commas_last place s)
    ∙ (c.in_ok-expect.ensures σ).faults (moves_last place s)
    ∙ (c.in_ok-moves.ensures σ).word_is.faults (comma_last place s))
    (λ s. c.in_err-expect-2.ensures σ (term_last place s))

pub returns-in_err-term : goal.returns-in_err-term
returns-in_err-term c =
    let old = c.args.self.now in
    let σ = c.args.signature.now in
    let took = c.in_ok-take.ensures in
    let place = place_of old c.args.place in
    let here = at_inner old c.expect-2.new.self
    (ap (λ scope. scope.bound) ((c.in_ok-expect-2.ensures σ).keeps.scope ∙ (c.in_ok-moves.ensures σ).word_is.keeps.scope ∙ (c.in_ok-expect.ensures σ).keeps.scope
    ∙ c.in_ok-predicate.ensures.word_is.keeps.scope ∙ (c.in_ok-inner.ensures σ).word_is.keeps.scope ∙ took.keeps.scope)) (c.in_ok-inner.ensures σ).inner_is in
    refusal _ _ _ c.args.self.now _ _ _ c.from_residual-in_err-term.ensures.1
    (λ s. both_taken k.Win σ old c.take.new.self c.args.place c.requires.starts took.takes took.keeps took.joints (game_last place []) refl (c.in_ok-inner.ensures σ) s
    ∙ c.in_ok-predicate.ensures.word_is.faults (commas_last place s)
    ∙ (c.in_ok-expect.ensures σ).faults (moves_last place s)
    ∙ (c.in_ok-moves.ensures σ).word_is.faults (comma_last place s)
    ∙ (c.in_ok-expect-2.ensures σ).faults (term_last place s)
    ∙ ap (λ p. fault_of σ c.expect-2.new.self (m.term p ∷ last s)) (sym here))
    (λ s. c.in_err-term.ensures (last s))

pub returns-in_err-expect-3 : goal.returns-in_err-expect-3
returns-in_err-expect-3 c =
    let old = c.args.self.now in
    let σ = c.args.signature.now in
    let took = c.in_ok-take.ensures in
    let place = place_of old c.args.place in
    let here = at_inner old c.expect-2.new.self
    (ap (λ scope. scope.bound) ((c.in_ok-expect-2.ensures σ).keeps.scope ∙ (c.in_ok-moves.ensures σ).word_is.keeps.scope ∙ (c.in_ok-expect.ensures σ).keeps.scope
    ∙ c.in_ok-predicate.ensures.word_is.keeps.scope ∙ (c.in_ok-inner.ensures σ).word_is.keeps.scope ∙ took.keeps.scope)) (c.in_ok-inner.ensures σ).inner_is in
    refusal _ _ _ c.args.self.now _ _ _ c.from_residual-in_err-expect-3.ensures.1
    (λ s. both_taken k.Win σ old c.take.new.self c.args.place c.requires.starts took.takes took.keeps took.joints (game_last place []) refl (c.in_ok-inner.ensures σ) s
    ∙ c.in_ok-predicate.ensures.word_is.faults (commas_last place s)
    ∙ (c.in_ok-expect.ensures σ).faults (moves_last place s)
    ∙ (c.in_ok-moves.ensures σ).word_is.faults (comma_last place s)
    ∙ (c.in_ok-expect-2.ensures σ).faults (term_last place s)
    ∙ ap (λ p. fault_of σ c.expect-2.new.self (m.term p ∷ last s)) (sym here)
    ∙ c.in_ok-term.ensures.faults (last s))
    (λ s. c.in_err-expect-3.ensures σ s)

pub returns : goal.returns
returns c =
    let old = c.args.self.now in
    let σ = c.args.signature.now in
    let took = c.in_ok-take.ensures in
    let place = place_of old c.args.place in
    let here = at_inner old c.expect-2.new.self
    (ap (λ scope. scope.bound) ((c.in_ok-expect-2.ensures σ).keeps.scope ∙ (c.in_ok-moves.ensures σ).word_is.keeps.scope ∙ (c.in_ok-expect.ensures σ).keeps.scope
    ∙ c.in_ok-predicate.ensures.word_is.keeps.scope ∙ (c.in_ok-inner.ensures σ).word_is.keeps.scope ∙ took.keeps.scope)) (c.in_ok-inner.ensures σ).inner_is in
    let paren = c.in_ok-inner.ensures σ in
    let game = c.in_ok-predicate.ensures in
    let comma = c.in_ok-expect.ensures σ in
    let moves = c.in_ok-moves.ensures σ in
    let comma_2 = c.in_ok-expect-2.ensures σ in
    let last_word = c.in_ok-expect-3.ensures σ in
    record {
      faults = λ s. both_taken k.Win σ old c.take.new.self c.args.place c.requires.starts took.takes took.keeps took.joints (game_last place []) refl (c.in_ok-inner.ensures σ) s
          ∙ c.in_ok-predicate.ensures.word_is.faults (commas_last place s)
          ∙ (c.in_ok-expect.ensures σ).faults (moves_last place s)
          ∙ (c.in_ok-moves.ensures σ).word_is.faults (comma_last place s)
          ∙ (c.in_ok-expect-2.ensures σ).faults (term_last place s)
          ∙ ap (λ p. fault_of σ c.expect-2.new.self (m.term p ∷ last s)) (sym here)
          ∙ c.in_ok-term.ensures.faults (last s)
          ∙ (c.in_ok-expect-3.ensures σ).faults s;
      read = wrapped_read (λ w. win game.name moves.digits w) (λ w. refl)
          (keeps_both took.keeps (keeps_both paren.word_is.keeps (keeps_both game.word_is.keeps (keeps_both comma.keeps (keeps_both moves.word_is.keeps comma_2.keeps)))))
          (comma_2.bytes ∙ moves.word_is.bytes ∙ comma.bytes ∙ game.word_is.bytes ∙ paren.word_is.bytes ∙ took.takes.bytes)
          (omega (arith, took.takes.on, paren.word_is.on, game.word_is.on, comma.on, moves.word_is.on, comma_2.on)) c.in_ok-term.ensures.read last_word
          (λ names w one. record {
            strong = omega arith;
            levelled = tt;
            stands = (
              c.in_ok-term.term,
              win_form c.in_ok-predicate.predicate c.in_ok-moves.moves c.in_ok-term.term ∙ ap (λ p. form.win p c.in_ok-moves.moves c.in_ok-term.term) game.is
                  ∙ ap (λ n. form.win (place_in σ game.name) n c.in_ok-term.term) moves.is,
              one,
            );
          })
          (λ w text. words_taken k.Win c.requires.starts took.takes
          ∙ ap (λ ws. mark k.Win ∷ ws) (paren.word_is.words ∙ ap (λ ws. mark k.LeftParen ∷ ws) (game.word_is.words ∙ ap (λ ws. word k.Name game.name ∷ ws)
          (comma.words ∙ ap (λ ws. mark k.Comma ∷ ws) (moves.word_is.words ∙ ap (λ ws. word k.Number moves.digits ∷ ws) (comma_2.words ∙ ap (λ ws. mark k.Comma ∷ ws) text))))));
    }
