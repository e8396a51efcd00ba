use Rattle.std.proofs.Common.{◌∷◌, ◌++◌, [], refl, sym, ap, ◌∙◌, arith}
use Rattle.formula_ast.specs.declared.token.TokenKind.TheVariants as k
use Rattle.formula_grammar.specs.Machine as m
use Rattle.formula_grammar.specs.Written.{Text}
use Rattle.formula_reader.specs.Input.{Scope}
use Rattle.formula_reader.specs.Faults.{fault_of, RefusesAt}
use Rattle.formula_reader.proofs.Steps.{took_plain, stopped_plain, failed_with, answers_as, refuses_before}
use Rattle.formula_reader.proofs.Rooms.{less, kept}
use Rattle.formula_reader.proofs.StatementReading.{parameters_begin, parameters_more, parameters_past, header_past, definition_is, no_parameters_read, parameters_read}
use Rattle.formula_reader.proofs.reader.Reader.parameters.Goals as goal

pub returns-then-not-sees : goal.returns-then-not-sees
returns-then-not-sees c = λ σ.
    answers_as _ _ _ _ c.expect.result (λ u define. no_parameters_read c.requires (sym c.if-not-sees.ensures) define)
    (λ e refuses p s. refuses_before e (header_past σ c.args.self.now p (sym c.if-not-sees.ensures) s) (refuses (m.defined p [] ++ s))) (c.expect.ensures σ)

pub returns-in_err-take : goal.returns-in_err-take
returns-in_err-take c = λ σ.
    let old = c.args.self.now in
    failed_with _ (λ e. (p : Text) → RefusesAt (m.header p) σ old e) _ _ c.from_residual.ensures.1
    (λ p. stopped_plain k.LeftParen old (sym c.if-not-sees.ensures) σ _ c.in_err-take.ensures.stops (m.header p) (m.parameter p [] ∷ []) refl)

pub parameter-requires : goal.parameter-requires
parameter-requires c =
    let none = c.in_ok-take.ensures.keeps.scope ∙ c.requires in ap (λ (scope : Scope). scope.names) none ∙ sym (ap (λ (scope : Scope). scope.bound) none)

pub returns-in_err-parameter : goal.returns-in_err-parameter
returns-in_err-parameter c = λ σ.
    let old = c.args.self.now in
    let took = c.in_ok-take.ensures in
    let none = ap (λ (scope : Scope). scope.bound) (took.keeps.scope ∙ c.requires) in
    failed_with _ (λ e. (p : Text) → RefusesAt (m.header p) σ old e) _ _ c.from_residual-in_err-parameter.ensures.1
    (λ p s. refuses_before _
    (took_plain k.LeftParen (sym c.if-not-sees.ensures) took.takes σ (m.header p) (m.parameter p [] ∷ []) refl took.joints s
    ∙ ap (λ xs. fault_of σ c.take.new.self (m.parameter p xs ∷ s)) (sym none))
    (c.in_err-parameter.ensures σ p s))

pub more-init : goal.more-init
more-init c = record {
  reads = λ σ. parameters_begin c.requires (sym c.if-not-sees.ensures) c.in_ok-take.ensures.takes c.in_ok-take.ensures.joints c.in_ok-take.ensures.keeps (c.in_ok-parameter.ensures σ);
}

pub returns-in_err-take-2 : goal.returns-in_err-take-2
returns-in_err-take-2 c = λ σ.
    let r = c.more.invariant.reads σ in
    failed_with _ (λ e. (p : Text) → RefusesAt (m.header p) σ c.args.self.now e) _ _ c.from_residual-in_err-take-2.ensures.1
    (λ p s. refuses_before _ (r.faults p s)
    (stopped_plain k.Comma c.more.self (sym c.more-test.ensures) σ _ c.in_err-take-2.ensures.stops (m.more_parameters p (r.first ∷ r.more)) (m.parameter p (r.first ∷ r.more) ∷ []) refl s))

pub parameter-requires-in-more : goal.parameter-requires-in-more
parameter-requires-in-more c =
    let all = c.in_ok-take-2.ensures.keeps.scope ∙ (c.more.invariant.reads []).scope in ap (λ (scope : Scope). scope.names) all ∙ sym (ap (λ (scope : Scope). scope.bound) all)

pub returns-in_err-parameter-2 : goal.returns-in_err-parameter-2
returns-in_err-parameter-2 c = λ σ.
    let r = c.more.invariant.reads σ in
    let took = c.in_ok-take-2.ensures in
    let all = ap (λ (scope : Scope). scope.bound) (took.keeps.scope ∙ r.scope) in
    failed_with _ (λ e. (p : Text) → RefusesAt (m.header p) σ c.args.self.now e) _ _ c.from_residual-in_err-parameter-2.ensures.1
    (λ p s. refuses_before _
    (r.faults p s
    ∙ took_plain k.Comma (sym c.more-test.ensures) took.takes σ (m.more_parameters p (r.first ∷ r.more)) (m.parameter p (r.first ∷ r.more) ∷ []) refl took.joints s
    ∙ ap (λ xs. fault_of σ c.take-in-more.new.self (m.parameter p xs ∷ s)) (sym all))
    (c.in_err-parameter-2.ensures σ p s))

pub more-smaller : goal.more-smaller
more-smaller c =
    let further = less c.in_ok-take-2.ensures.takes in
    let read = c.in_ok-parameter-2.ensures [] in
    let behind = kept c.take-in-more.new.self c.parameter-in-more.new.self read.bytes (omega (arith, read.on)) in
    omega (arith, further, behind)

pub more-preserved : goal.more-preserved
more-preserved c = record {
  reads = λ σ. parameters_more (c.more.invariant.reads σ) (sym c.more-test.ensures) c.in_ok-take-2.ensures.takes c.in_ok-take-2.ensures.joints c.in_ok-take-2.ensures.keeps
      (c.in_ok-parameter-2.ensures σ);
}

pub returns-in_err-expect : goal.returns-in_err-expect
returns-in_err-expect c = λ σ.
    let r = c.more.invariant.reads σ in
    failed_with _ (λ e. (p : Text) → RefusesAt (m.header p) σ c.args.self.now e) _ _ c.from_residual-in_err-expect.ensures.1
    (λ p s. refuses_before _ (r.faults p s ∙ parameters_past σ c.more.self p (r.first ∷ r.more) (sym c.more-test.ensures) s)
    (c.in_err-expect.ensures σ (m.definition p (r.first ∷ r.more) ∷ s)))

pub returns : goal.returns
returns c = λ σ.
    let r = c.more.invariant.reads σ in
    let xs = r.first ∷ r.more in
    let close = c.in_ok-expect.ensures σ in
    answers_as _ _ _ _ c.expect-3.result (λ u define. parameters_read r (sym c.more-test.ensures) close define)
    (λ e refuses p s. refuses_before e
    (r.faults p s ∙ parameters_past σ c.more.self p xs (sym c.more-test.ensures) s ∙ close.faults (m.definition p xs ∷ s) ∙ definition_is σ c.expect-2.new.self p xs s)
    (refuses (m.defined p xs ++ s))) (c.expect-3.ensures σ)
