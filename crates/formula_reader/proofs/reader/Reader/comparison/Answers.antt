use Rattle.std.proofs.Common.{◌∷◌, [], refl, sym, ap, ◌∙◌, arith}
use Rattle.formula_ast.specs.declared.token.TokenKind.TheVariants as k
use Rattle.formula_grammar.specs.Written.{equals, differs}
use Rattle.formula_grammar.specs.Machine as m
use Rattle.formula_reader.specs.declared.parsed.Comparer.TheVariants as comparer
use Rattle.formula_reader.specs.Input.{place_of}
use Rattle.formula_reader.specs.Faults.{fault_of}
use Rattle.formula_reader.proofs.Steps.{words_taken, took_plain, stopped_plain, refused_here, refused_as, failed, refusal}
use Rattle.formula_reader.proofs.Reading.{kept_place}
use Rattle.formula_reader.proofs.AtomReading.{comparison_read, comparison_blocked}
use Rattle.formula_reader.proofs.reader.Reader.comparison.Goals as goal

pub returns-in_err-take : goal.returns-in_err-take
returns-in_err-take c =
    let old = c.args.self.now in
    let place = place_of old c.args.place in
    failed _ _ _ c.args.self.now _ _ c.from_residual.ensures.1 (stopped_plain k.Equal old (sym c.if-sees.ensures) _ _ c.in_err-take.ensures.stops (m.comparison place) (m.term place ∷ []) refl)

pub returns-in_err-term : goal.returns-in_err-term
returns-in_err-term c =
    let old = c.args.self.now in
    let σ = c.args.signature.now in
    let took = c.in_ok-take.ensures in
    let place = place_of old c.args.place in
    refusal _ _ _ c.args.self.now _ _ _ c.from_residual-in_err-term.ensures.1
    (λ s. took_plain k.Equal (sym c.if-sees.ensures) took.takes σ (m.comparison place) (m.term place ∷ []) refl took.joints s
    ∙ ap (λ p. fault_of σ c.take.new.self (m.term p ∷ s)) (sym (kept_place c.args.place took.keeps)))
    c.in_err-term.ensures

pub returns-in_ok-term : goal.returns-in_ok-term
returns-in_ok-term c =
    let old = c.args.self.now in
    let σ = c.args.signature.now in
    let took = c.in_ok-take.ensures in
    let place = place_of old c.args.place in
    record {
      faults = λ s. took_plain k.Equal (sym c.if-sees.ensures) took.takes σ (m.comparison place) (m.term place ∷ []) refl took.joints s
          ∙ ap (λ p. fault_of σ c.take.new.self (m.term p ∷ s)) (sym (kept_place c.args.place took.keeps)) ∙ c.in_ok-term.ensures.faults s;
      read = comparison_read equals comparer.Equals refl (words_taken k.Equal (sym c.if-sees.ensures) took.takes) took.keeps took.takes.bytes (omega (arith, took.takes.on)) c.in_ok-term.ensures.read;
    }

pub returns-in_err-take-2 : goal.returns-in_err-take-2
returns-in_err-take-2 c =
    let old = c.args.self.now in
    let place = place_of old c.args.place in
    failed _ _ _ c.args.self.now _ _ c.from_residual-in_err-take-2.ensures.1
    (stopped_plain k.Differ old (sym c.if-sees-2.ensures) _ _ c.in_err-take-2.ensures.stops (m.comparison place) (m.term place ∷ []) refl)

pub returns-in_err-term-2 : goal.returns-in_err-term-2
returns-in_err-term-2 c =
    let old = c.args.self.now in
    let σ = c.args.signature.now in
    let took = c.in_ok-take-2.ensures in
    let place = place_of old c.args.place in
    refusal _ _ _ c.args.self.now _ _ _ c.from_residual-in_err-term-2.ensures.1
    (λ s. took_plain k.Differ (sym c.if-sees-2.ensures) took.takes σ (m.comparison place) (m.term place ∷ []) refl took.joints s
    ∙ ap (λ p. fault_of σ c.take-then-sees-2.new.self (m.term p ∷ s)) (sym (kept_place c.args.place took.keeps)))
    c.in_err-term-2.ensures

pub returns-in_ok-term-2 : goal.returns-in_ok-term-2
returns-in_ok-term-2 c =
    let old = c.args.self.now in
    let σ = c.args.signature.now in
    let took = c.in_ok-take-2.ensures in
    let place = place_of old c.args.place in
    record {
      faults = λ s. took_plain k.Differ (sym c.if-sees-2.ensures) took.takes σ (m.comparison place) (m.term place ∷ []) refl took.joints s
          ∙ ap (λ p. fault_of σ c.take-then-sees-2.new.self (m.term p ∷ s)) (sym (kept_place c.args.place took.keeps)) ∙ c.in_ok-term-2.ensures.faults s;
      read = comparison_read differs comparer.Differs refl (words_taken k.Differ (sym c.if-sees-2.ensures) took.takes) took.keeps took.takes.bytes (omega (arith, took.takes.on))
          c.in_ok-term-2.ensures.read;
    }

pub returns-else-sees-2 : goal.returns-else-sees-2
returns-else-sees-2 c = λ s.
    let old = c.args.self.now in
    let place = place_of old c.args.place in
    refused_as _ _ c.fault.ensures
    (refused_here c.args.signature.now old (m.comparison place) refl (comparison_blocked old place (sym c.if-sees.ensures) (sym c.if-sees-2.ensures)) s)
