use Rattle.std.proofs.Common.{◌≡◌, ◌∷◌, ◌++◌, [], None, nat_le, refl, sym, ap, subst, ◌∙◌, arith}
use Rattle.formula_ast.specs.declared.token.TokenKind.TheVariants as k
use Rattle.formula_grammar.specs.Machine as m
use Rattle.tree_model.specs.declared.kind.Kind.TheVariants as kind
use Rattle.formula_grammar.specs.declared.fault.FaultKind.TheVariants.{Twice, Limit}
use Rattle.formula_grammar.specs.Checks.{check, count_of, is_long, sooner, start, entry_of, value_of}
use Rattle.formula_reader.specs.Input.{text_ahead, environment}
use Rattle.formula_reader.proofs.Steps.{took_in, stopped_in, refused_here, refused_as, blocked, failed, refusal, within}
use Rattle.formula_reader.proofs.Declaring.{nothing_first, not_declared}
use Rattle.formula_reader.proofs.StatementReading.{declaration_read}
use Rattle.formula_reader.proofs.reader.Reader.declaration.Goals as goal

pub returns-in_err-take : goal.returns-in_err-take
returns-in_err-take c =
    let old = c.args.self.now in
    let σ = c.args.signature.now in
    failed _ _ σ old _ _ c.from_residual.ensures.1
    (stopped_in k.Name old (sym c.if-not-sees.ensures) σ _ c.in_err-take.ensures.stops m.declaration (m.declares (text_ahead old))
    (m.plain k.Slash ∷ m.one k.Number (λ n. m.has_arity (text_ahead old) n ∷ []) ∷ []) refl
    (c.declares.ensures old.joints ∙ ap (λ f. check (environment σ old.joints) (m.declares f)) c.text-name.ensures))

pub returns-in_err-expect : goal.returns-in_err-expect
returns-in_err-expect c =
    let old = c.args.self.now in
    let σ = c.args.signature.now in
    let took = c.in_ok-take.ensures in
    let number = m.one k.Number (λ n. m.has_arity (text_ahead old) n ∷ []) in
    refusal _ _ σ old _ _ _ c.from_residual-in_err-expect.ensures.1
    (took_in k.Name (sym c.if-not-sees.ensures) took.takes σ σ m.declaration (m.declares (text_ahead old)) (m.plain k.Slash ∷ number ∷ []) refl
    (c.declares.ensures old.joints ∙ ap (λ f. check (environment σ old.joints) (m.declares f)) c.text-name.ensures) (ap (environment σ) (sym took.joints)))
    (λ s. c.in_err-expect.ensures σ (number ∷ s))

pub returns-then-not-sees-2 : goal.returns-then-not-sees-2
returns-then-not-sees-2 c = λ s.
    let old = c.args.self.now in
    let σ = c.args.signature.now in
    let took = c.in_ok-take.ensures in
    let number = m.one k.Number (λ n. m.has_arity (text_ahead old) n ∷ []) in
    refused_as _ _ c.fault-then-not-sees-2.ensures
    (took_in k.Name (sym c.if-not-sees.ensures) took.takes σ σ m.declaration (m.declares (text_ahead old)) (m.plain k.Slash ∷ number ∷ []) refl
    (c.declares.ensures old.joints ∙ ap (λ f. check (environment σ old.joints) (m.declares f)) c.text-name.ensures) (ap (environment σ) (sym took.joints)) s
    ∙ (c.in_ok-expect.ensures σ).faults (number ∷ s)
    ∙ refused_here σ c.expect.new.self number refl (blocked k.Number c.expect.new.self number (sym c.if-not-sees-2.ensures) (λ t no. rw no refl)) s)

pub returns-in_err-take-2 : goal.returns-in_err-take-2
returns-in_err-take-2 c =
    let old = c.args.self.now in
    let mid = c.expect.new.self in
    let σ = c.args.signature.now in
    let took = c.in_ok-take.ensures in
    let number = m.one k.Number (λ n. m.has_arity (text_ahead old) n ∷ []) in
    let E = environment σ mid.joints in
    refusal _ _ σ old _ _ _ c.from_residual-in_err-take-2.ensures.1
    (λ s. took_in k.Name (sym c.if-not-sees.ensures) took.takes σ σ m.declaration (m.declares (text_ahead old)) (m.plain k.Slash ∷ number ∷ []) refl
    (c.declares.ensures old.joints ∙ ap (λ f. check (environment σ old.joints) (m.declares f)) c.text-name.ensures) (ap (environment σ) (sym took.joints)) s
    ∙ (c.in_ok-expect.ensures σ).faults (number ∷ s))
    (stopped_in k.Number mid (sym c.if-not-sees-2.ensures) σ _ c.in_err-take-2.ensures.stops number (m.has_arity (text_ahead old) (text_ahead mid)) [] refl
    (c.has_arity.ensures E (text_ahead old) ∙ ap (λ d. check E (m.has_arity (text_ahead old) d)) c.text-digits.ensures))

pub unreachable-requires : goal.unreachable-requires
unreachable-requires c =
    let few = within _ _ (value_of c.text-digits.result.now) 8 (c.has_arity.ensures (start []) []) c.in_ok-take-2.ensures.takes.right in
    let same = ap value_of c.as_bytes.ensures.value in
    omega (arith, few, c.in-None.ensures, same)

pub declare-requires : goal.declare-requires
declare-requires c =
    not_declared _ (nothing_first c.args.self.now.pending _ Twice ((is_long c.text-name.result.now, Limit) ∷ (nat_le 4096 (count_of kind.Symbol c.args.signature.now), Limit) ∷ [])
    (subst (λ w. sooner c.args.self.now.pending w ≡ None) (c.declares.ensures 0) c.in_ok-take.ensures.takes.right))

pub returns : goal.returns
returns c =
    let old = c.args.self.now in
    let mid = c.expect.new.self in
    let σ = c.args.signature.now in
    let E = environment σ mid.joints in
    declaration_read (sym c.if-not-sees.ensures) c.in_ok-take.ensures.takes
    (c.declares.ensures old.joints ∙ ap (λ f. check (environment σ old.joints) (m.declares f)) c.text-name.ensures) c.in_ok-take.ensures.joints (c.in_ok-expect.ensures σ)
    (sym c.if-not-sees-2.ensures) c.in_ok-take-2.ensures.takes (c.has_arity.ensures E (text_ahead old) ∙ ap (λ d. check E (m.has_arity (text_ahead old) d)) c.text-digits.ensures)
    c.in_ok-take-2.ensures.joints
    (c.in_ok-declare.ensures.declared ∙ ap (λ f. σ ++ entry_of f kind.Symbol c.in-Some.value ∷ []) c.text-name.ensures
    ∙ ap (λ n. σ ++ entry_of (text_ahead old) kind.Symbol n ∷ []) (c.in-Some.ensures ∙ ap value_of (c.as_bytes.ensures.value ∙ c.text-digits.ensures)))
