use Rattle.std.proofs.Common.{◌∷◌, [], false, refl, sym, ap, ◌∙◌, arith}
use Rattle.formula_ast.specs.declared.token.TokenKind.TheVariants as k
use Rattle.formula_grammar.specs.Machine as m
use Rattle.formula_grammar.specs.Grammar.{files}
use Rattle.formula_reader.specs.Input.{Input, Scope, words_left, environment}
use Rattle.formula_reader.specs.Faults.{fault_of}
use Rattle.formula_reader.proofs.Steps.{took_in, refusal}
use Rattle.formula_reader.proofs.StatementReading.{question_read}
use Rattle.formula_reader.proofs.reader.Reader.question.Goals as goal

pub returns-in_err-body : goal.returns-in_err-body
returns-in_err-body c =
    let σ = c.args.file.now.signature in
    let begin = c.in_ok-begin.ensures in
    refusal _ _ σ c.args.self.now _ _ _ c.from_residual-in_err-body.ensures.1
    (λ s. took_in k.Solve c.requires begin.takes σ σ (m.statements files) m.begins (m.operand 1 m.open_place ∷ m.plain k.Stop ∷ m.statements files ∷ []) refl refl
    (ap (environment σ) (sym begin.joints)) s
    ∙ ap (λ (scope : Scope). fault_of σ c.begin.new.self (m.operand 1 (record { depth = 0; bound = scope.bound; closed = false }) ∷ m.plain k.Stop ∷ m.statements files ∷ s)) (sym begin.scope))
    (λ s. c.in_err-body.ensures (m.plain k.Stop ∷ m.statements files ∷ s))

pub returns-in_err-expect : goal.returns-in_err-expect
returns-in_err-expect c =
    let σ = c.args.file.now.signature in
    let begin = c.in_ok-begin.ensures in
    refusal _ _ σ c.args.self.now _ _ _ c.from_residual-in_err-expect.ensures.1
    (λ s. took_in k.Solve c.requires begin.takes σ σ (m.statements files) m.begins (m.operand 1 m.open_place ∷ m.plain k.Stop ∷ m.statements files ∷ []) refl refl
    (ap (environment σ) (sym begin.joints)) s
    ∙ ap (λ (scope : Scope). fault_of σ c.begin.new.self (m.operand 1 (record { depth = 0; bound = scope.bound; closed = false }) ∷ m.plain k.Stop ∷ m.statements files ∷ s)) (sym begin.scope)
    ∙ c.in_ok-body.ensures.faults (m.plain k.Stop ∷ m.statements files ∷ s))
    (λ s. c.in_err-expect.ensures σ (m.statements files ∷ s))

pub returns : goal.returns
returns c =
    let σ = c.args.file.now.signature in
    let begin = c.in_ok-begin.ensures in
    let at = ap (λ (i : Input). i.at) c.self.view_is in
    question_read c.args.file.now _ c.requires begin.takes begin.joints begin.scope
    (λ s. ap (λ (scope : Scope). fault_of σ c.begin.new.self (m.operand 1 (record { depth = 0; bound = scope.bound; closed = false }) ∷ s)) (sym begin.scope) ∙ c.in_ok-body.ensures.faults s)
    c.in_ok-body.ensures.read (c.in_ok-expect.ensures σ) (λ s. ap (λ (i : Input). fault_of σ i s) (sym c.self.view_is)) (ap (λ (i : Input). words_left i) c.self.view_is)
    (ap (λ (i : Input). i.bytes) c.self.view_is) (omega (arith, at))
    (c.in_ok-names.ensures.names ∙ ap (λ (scope : Scope). scope.names) c.replace.ensures.value ∙ ap (λ (i : Input). i.scope.names) c.self.view_is) refl refl refl
    c.in_ok-push.ensures.ok
