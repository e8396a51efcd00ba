use Rattle.std.proofs.Common.{◌≡◌, ◌∷◌, ◌++◌, [], true, None, nat_le, length, refl, sym, ap, subst, ◌∙◌, arith}
use Rattle.formula_ast.specs.declared.token.TokenKind.TheVariants as k
use Rattle.formula_grammar.specs.Machine as m
use Rattle.tree_model.specs.declared.kind.Kind.TheVariants as kind
use Rattle.formula_grammar.specs.declared.fault.FaultKind.TheVariants.{Twice, Limit}
use Rattle.formula_grammar.specs.Grammar.{files}
use Rattle.formula_grammar.specs.Checks.{check, count_of, is_long, sooner, entry_of}
use Rattle.formula_reader.specs.Input.{Input, Scope, words_left, text_ahead, environment}
use Rattle.formula_reader.specs.Faults.{fault_of}
use Rattle.formula_reader.proofs.Steps.{took_in, stopped_in, refused_here, refused_as, blocked, refusal}
use Rattle.formula_reader.proofs.Declaring.{nothing_first, not_declared}
use Rattle.formula_reader.proofs.StatementReading.{predicate_read}
use Rattle.formula_reader.proofs.reader.Reader.predicate.Goals as goal

pub returns-then-not-sees : goal.returns-then-not-sees
returns-then-not-sees c = λ s.
    let σ = c.args.file.now.signature in
    let begin = c.in_ok-begin.ensures in
    let begun = c.begin.new.self in
    refused_as _ _ c.fault.ensures
    (took_in k.Pred c.requires begin.takes σ σ (m.statements files) m.begins (m.predicate_name ∷ m.statements files ∷ []) refl refl (ap (environment σ) (sym begin.joints)) s
    ∙ refused_here σ begun m.predicate_name refl (blocked k.Name begun m.predicate_name (sym c.if-not-sees.ensures) (λ t no. rw no refl)) (m.statements files ∷ s))

pub returns-in_err-take : goal.returns-in_err-take
returns-in_err-take c =
    let σ = c.args.file.now.signature in
    let begin = c.in_ok-begin.ensures in
    let begun = c.begin.new.self in
    let name = text_ahead begun in
    refusal _ _ σ c.args.self.now _ _ _ c.from_residual-in_err-take.ensures.1
    (λ s. took_in k.Pred c.requires begin.takes σ σ (m.statements files) m.begins (m.predicate_name ∷ m.statements files ∷ []) refl refl (ap (environment σ) (sym begin.joints)) s)
    (λ s. stopped_in k.Name begun (sym c.if-not-sees.ensures) σ _ c.in_err-take.ensures.stops m.predicate_name (m.declares_predicate name) (m.header name ∷ []) refl
    (c.declares_predicate-wrong.ensures begun.joints ∙ ap (λ f. check (environment σ begun.joints) (m.declares_predicate f)) c.text-name.ensures) (m.statements files ∷ s))

pub returns-in_err-parameters : goal.returns-in_err-parameters
returns-in_err-parameters c =
    let σ = c.args.file.now.signature in
    let begin = c.in_ok-begin.ensures in
    let begun = c.begin.new.self in
    let name = text_ahead begun in
    refusal _ _ σ c.args.self.now _ _ _ c.from_residual-in_err-parameters.ensures.1
    (λ s. took_in k.Pred c.requires begin.takes σ σ (m.statements files) m.begins (m.predicate_name ∷ m.statements files ∷ []) refl refl (ap (environment σ) (sym begin.joints)) s
    ∙ took_in k.Name (sym c.if-not-sees.ensures) c.in_ok-take.ensures.takes σ σ m.predicate_name (m.declares_predicate name) (m.header name ∷ []) refl (c.declares_predicate-wrong.ensures begun.joints ∙ ap (λ f. check (environment σ begun.joints) (m.declares_predicate f)) c.text-name.ensures)
    (ap (environment σ) (sym c.in_ok-take.ensures.joints)) (m.statements files ∷ s))
    (λ s. c.in_err-parameters.ensures σ name (m.statements files ∷ s))

pub parameters-requires : goal.parameters-requires
parameters-requires c = c.in_ok-take.ensures.keeps.scope ∙ c.in_ok-begin.ensures.scope

pub returns-in_err-body : goal.returns-in_err-body
returns-in_err-body c =
    let σ = c.args.file.now.signature in
    let begin = c.in_ok-begin.ensures in
    let begun = c.begin.new.self in
    let name = text_ahead begun in
    let listed = c.in_ok-parameters.ensures σ in
    let stop = m.one k.Stop (λ text. m.ends_predicate name (length listed.parameters) ∷ []) in
    refusal _ _ σ c.args.self.now _ _ _ c.from_residual-in_err-body.ensures.1
    (λ s. took_in k.Pred c.requires begin.takes σ σ (m.statements files) m.begins (m.predicate_name ∷ m.statements files ∷ []) refl refl (ap (environment σ) (sym begin.joints)) s
    ∙ took_in k.Name (sym c.if-not-sees.ensures) c.in_ok-take.ensures.takes σ σ m.predicate_name (m.declares_predicate name) (m.header name ∷ []) refl (c.declares_predicate-wrong.ensures begun.joints ∙ ap (λ f. check (environment σ begun.joints) (m.declares_predicate f)) c.text-name.ensures)
    (ap (environment σ) (sym c.in_ok-take.ensures.joints)) (m.statements files ∷ s)
    ∙ listed.faults name (m.statements files ∷ s)
    ∙ ap (λ (scope : Scope). fault_of σ c.parameters.new.self (m.operand 1 (record { depth = 0; bound = scope.bound; closed = true }) ∷ stop ∷ m.statements files ∷ s)) (sym listed.scope))
    (λ s. c.in_err-body.ensures (stop ∷ m.statements files ∷ s))

pub returns-then-not-sees-2 : goal.returns-then-not-sees-2
returns-then-not-sees-2 c = λ s.
    let σ = c.args.file.now.signature in
    let begin = c.in_ok-begin.ensures in
    let begun = c.begin.new.self in
    let name = text_ahead begun in
    let listed = c.in_ok-parameters.ensures σ in
    let stop = m.one k.Stop (λ text. m.ends_predicate name (length listed.parameters) ∷ []) in
    refused_as _ _ c.fault-then-not-sees-2.ensures
    (took_in k.Pred c.requires begin.takes σ σ (m.statements files) m.begins (m.predicate_name ∷ m.statements files ∷ []) refl refl (ap (environment σ) (sym begin.joints)) s
    ∙ took_in k.Name (sym c.if-not-sees.ensures) c.in_ok-take.ensures.takes σ σ m.predicate_name (m.declares_predicate name) (m.header name ∷ []) refl (c.declares_predicate-wrong.ensures begun.joints ∙ ap (λ f. check (environment σ begun.joints) (m.declares_predicate f)) c.text-name.ensures)
    (ap (environment σ) (sym c.in_ok-take.ensures.joints)) (m.statements files ∷ s)
    ∙ listed.faults name (m.statements files ∷ s)
    ∙ ap (λ (scope : Scope). fault_of σ c.parameters.new.self (m.operand 1 (record { depth = 0; bound = scope.bound; closed = true }) ∷ stop ∷ m.statements files ∷ s)) (sym listed.scope)
    ∙ c.in_ok-body.ensures.faults (stop ∷ m.statements files ∷ s)
    ∙ refused_here σ c.operand.new.self stop refl (blocked k.Stop c.operand.new.self stop (sym c.if-not-sees-2.ensures) (λ t no. rw no refl)) (m.statements files ∷ s))

pub returns-in_err-take-2 : goal.returns-in_err-take-2
returns-in_err-take-2 c =
    let σ = c.args.file.now.signature in
    let begin = c.in_ok-begin.ensures in
    let begun = c.begin.new.self in
    let name = text_ahead begun in
    let listed = c.in_ok-parameters.ensures σ in
    let stop = m.one k.Stop (λ text. m.ends_predicate name (length listed.parameters) ∷ []) in
    refusal _ _ σ c.args.self.now _ _ _ c.from_residual-in_err-take-2.ensures.1
    (λ s. took_in k.Pred c.requires begin.takes σ σ (m.statements files) m.begins (m.predicate_name ∷ m.statements files ∷ []) refl refl (ap (environment σ) (sym begin.joints)) s
    ∙ took_in k.Name (sym c.if-not-sees.ensures) c.in_ok-take.ensures.takes σ σ m.predicate_name (m.declares_predicate name) (m.header name ∷ []) refl (c.declares_predicate-wrong.ensures begun.joints ∙ ap (λ f. check (environment σ begun.joints) (m.declares_predicate f)) c.text-name.ensures)
    (ap (environment σ) (sym c.in_ok-take.ensures.joints)) (m.statements files ∷ s)
    ∙ listed.faults name (m.statements files ∷ s)
    ∙ ap (λ (scope : Scope). fault_of σ c.parameters.new.self (m.operand 1 (record { depth = 0; bound = scope.bound; closed = true }) ∷ stop ∷ m.statements files ∷ s)) (sym listed.scope)
    ∙ c.in_ok-body.ensures.faults (stop ∷ m.statements files ∷ s))
    (λ s. stopped_in k.Stop c.operand.new.self (sym c.if-not-sees-2.ensures) σ _ c.in_err-take-2.ensures.stops stop (m.ends_predicate name (length listed.parameters)) [] refl refl
    (m.statements files ∷ s))

pub declare-requires : goal.declare-requires
declare-requires c =
    not_declared _ (nothing_first c.begin.new.self.pending _ Twice ((is_long c.text-name.result.now, Limit) ∷ (nat_le 1024 (count_of kind.Pred c.args.file.now.signature), Limit) ∷ [])
    (subst (λ w. sooner c.begin.new.self.pending w ≡ None) (c.declares_predicate-wrong.ensures 0) c.in_ok-take.ensures.takes.right))

pub returns : goal.returns
returns c =
    let σ = c.args.file.now.signature in
    let begin = c.in_ok-begin.ensures in
    let begun = c.begin.new.self in
    let name = text_ahead begun in
    let listed = c.in_ok-parameters.ensures σ in
    let params : c.depth-params.result ≡ length listed.parameters =
    c.depth-params.ensures ∙ ap (λ (i : Input). length i.scope.bound) c.self.view_is ∙ ap (λ (scope : Scope). length scope.bound) listed.scope in
    let at = ap (λ (i : Input). i.at) c.self-2.view_is in
    predicate_read c.args.file.now _ c.requires begin.takes begin.joints (sym c.if-not-sees.ensures) c.in_ok-take.ensures.takes (c.declares_predicate-wrong.ensures begun.joints ∙ ap (λ f. check (environment σ begun.joints) (m.declares_predicate f)) c.text-name.ensures)
    c.in_ok-take.ensures.joints listed
    (λ s. ap (λ (scope : Scope). fault_of σ c.parameters.new.self (m.operand 1 (record { depth = 0; bound = scope.bound; closed = true }) ∷ s)) (sym listed.scope) ∙ c.in_ok-body.ensures.faults s)
    c.in_ok-body.ensures.read (sym c.if-not-sees-2.ensures) c.in_ok-take-2.ensures.takes c.in_ok-take-2.ensures.joints
    (λ s. ap (λ (i : Input). fault_of c.declare.new.signature i s) (sym c.self-2.view_is)) (ap (λ (i : Input). words_left i) c.self-2.view_is)
    (ap (λ (i : Input). i.bytes) c.self-2.view_is) (omega (arith, at)) c.in_ok-place.ensures.place params
    (c.in_ok-names.ensures.names ∙ ap (λ (scope : Scope). scope.names) c.replace.ensures.value ∙ ap (λ (i : Input). i.scope.names) c.self-2.view_is
    ∙ ap (λ (scope : Scope). scope.names) c.in_ok-take-2.ensures.keeps.scope) refl
    (c.in_ok-place.ensures.declared ∙ ap (λ f. σ ++ entry_of f kind.Pred c.depth-params.result ∷ []) c.text-name.ensures ∙ ap (λ n. σ ++ entry_of name kind.Pred n ∷ []) params)
    c.in_ok-push.ensures.ok refl
