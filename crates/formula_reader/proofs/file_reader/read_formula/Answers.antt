use Rattle.std.proofs.Common.{◌≡◌, ◌≤◌, ℕ, List, [], ◌∷◌, length, false, Some, ap, refl, sym, ◌∙◌}
use Rattle.tree_model.specs.Signatures.{Signature}
use Rattle.formula_ast.specs.Tokens.{tokens_at}
use Rattle.formula_grammar.specs.FirstFault.{formula_fault}
use Rattle.formula_grammar.specs.Machine as m
use Rattle.formula_grammar.proofs.FormedFiles.{statements_are_well_formed}
use Rattle.formula_reader.specs.Faults.{fault_of}
use Rattle.formula_reader.specs.Input.{Input, environment}
use Rattle.formula_reader.specs.Refusals.{IsRefusedWith}
use Rattle.formula_reader.proofs.Steps.{exits, with_none}
use Rattle.formula_reader.proofs.FileReading.{Begins, formula_fault_from, formula_too_long, nothing_left, formula_read, refuses_with}
use Rattle.formula_reader.proofs.file_reader.read_formula.Goals as goal

-- the first fault is that of what the reader begins with
begins : (σ : Signature) (bytes : List ℕ) (i : Input) → length bytes ≤ 1048576 → Begins bytes i
    → formula_fault σ bytes ≡ fault_of σ i (m.operand 1 (record { depth = 0; bound = i.scope.bound; closed = false }) ∷ [])
begins σ bytes i short is =
    formula_fault_from σ bytes short ∙ with_none bytes (tokens_at bytes 0) (environment σ 0) (m.operand 1 m.open_place ∷ [])
    ∙ ap (λ (j : Input). fault_of σ j (m.operand 1 (record { depth = 0; bound = j.scope.bound; closed = false }) ∷ [])) (sym is)

pub returns-then-bytes-gt-MOST_BYTES-clause-refused : goal.returns-then-bytes-gt-MOST_BYTES-clause-refused
returns-then-bytes-gt-MOST_BYTES-clause-refused c = rw c.refused.ensures (formula_too_long c.args.sig.now c.args.bytes.now c.if-bytes-gt-MOST_BYTES.true)

pub returns-in_err-body-clause-refused : goal.returns-in_err-body-clause-refused
returns-in_err-body-clause-refused c =
    exits (λ e. IsRefusedWith e (λ fault. formula_fault c.args.sig.now c.args.bytes.now ≡ Some fault)) _ _ c.from_residual.ensures.1
    (refuses_with _ _ _ (begins c.args.sig.now c.args.bytes.now c.new-reader.result c.if-bytes-gt-MOST_BYTES.false c.new-reader.ensures) (c.in_err-body.ensures []))

pub returns-in_err-finish-clause-refused : goal.returns-in_err-finish-clause-refused
returns-in_err-finish-clause-refused c =
    exits (λ e. IsRefusedWith e (λ fault. formula_fault c.args.sig.now c.args.bytes.now ≡ Some fault)) _ _ c.from_residual-in_err-finish.ensures.1
    (refuses_with _ _ _
    (begins c.args.sig.now c.args.bytes.now c.new-reader.result c.if-bytes-gt-MOST_BYTES.false c.new-reader.ensures ∙ c.in_ok-body.ensures.faults [])
    (c.in_err-finish.ensures c.args.sig.now))

pub returns-clause-formula : goal.returns-clause-formula
returns-clause-formula c =
    formula_read c.args.sig.now c.args.bytes.now c.new-reader.result c.operand.new.self c.in_ok-body.body _ c.if-bytes-gt-MOST_BYTES.false c.new-reader.ensures
    (begins c.args.sig.now c.args.bytes.now c.new-reader.result c.if-bytes-gt-MOST_BYTES.false c.new-reader.ensures ∙ c.in_ok-body.ensures.faults [] ∙ c.in_ok-finish.ensures c.args.sig.now)
    (nothing_left c.args.sig.now c.operand.new.self (c.in_ok-finish.ensures c.args.sig.now)) c.in_ok-body.ensures.read c.in_ok-names.ensures.names refl

pub returns-clause-well_formed : goal.returns-clause-well_formed
returns-clause-well_formed c = λ few.
    statements_are_well_formed c.args.sig.now c.args.bytes.now _ few
    (formula_read c.args.sig.now c.args.bytes.now c.new-reader.result c.operand.new.self c.in_ok-body.body (record { names = c.in_ok-names.names; body = c.in_ok-body.body })
    c.if-bytes-gt-MOST_BYTES.false c.new-reader.ensures
    (begins c.args.sig.now c.args.bytes.now c.new-reader.result c.if-bytes-gt-MOST_BYTES.false c.new-reader.ensures ∙ c.in_ok-body.ensures.faults [] ∙ c.in_ok-finish.ensures c.args.sig.now)
    (nothing_left c.args.sig.now c.operand.new.self (c.in_ok-finish.ensures c.args.sig.now)) c.in_ok-body.ensures.read c.in_ok-names.ensures.names refl)
