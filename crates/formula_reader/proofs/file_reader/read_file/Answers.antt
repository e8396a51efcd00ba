use Rattle.std.proofs.Common.{◌≡◌, Some, ◌∙◌}
use Rattle.formula_grammar.specs.FirstFault.{file_fault}
use Rattle.formula_grammar.proofs.FormedFiles.{files_are_well_formed}
use Rattle.formula_reader.specs.Refusals.{IsRefusedWith}
use Rattle.formula_reader.proofs.Steps.{exits}
use Rattle.formula_reader.proofs.Rooms.{less_token}
use Rattle.formula_reader.proofs.FileReading.{file_too_long, begun, stepped, statements_end, nothing_left, file_read, refuses_with}
use Rattle.formula_reader.proofs.file_reader.read_file.Goals as goal

pub returns-then-bytes-gt-MOST_BYTES-clause-refused : goal.returns-then-bytes-gt-MOST_BYTES-clause-refused
returns-then-bytes-gt-MOST_BYTES-clause-refused c = rw c.refused.ensures (file_too_long c.args.bytes.now c.if-bytes-gt-MOST_BYTES.true)

pub statements-init : goal.statements-init
statements-init c = record { progress = begun _ _ _ c.new-reader.ensures c.new.ensures c.new-2.ensures c.new-3.ensures c.if-bytes-gt-MOST_BYTES.false }

pub returns-in_err-statement-clause-refused : goal.returns-in_err-statement-clause-refused
returns-in_err-statement-clause-refused c =
    exits (λ e. IsRefusedWith e (λ fault. file_fault c.args.bytes.now ≡ Some fault)) _ _ c.from_residual.ensures.1
    (refuses_with _ _ _ c.statements.invariant.progress.faults c.in_err-statement.ensures)

pub statements-smaller : goal.statements-smaller
statements-smaller c =
    let t = c.statements-test.ensures in
    less_token c.statements.reader c.statement.new.self t.0 t.1 t.2 c.in_ok-statement.ensures.bytes c.in_ok-statement.ensures.on

pub statements-preserved : goal.statements-preserved
statements-preserved c = record { progress = stepped _ _ _ _ _ c.in_ok-statement.ensures c.statements.invariant.progress }

pub returns-in_err-finish-clause-refused : goal.returns-in_err-finish-clause-refused
returns-in_err-finish-clause-refused c =
    exits (λ e. IsRefusedWith e (λ fault. file_fault c.args.bytes.now ≡ Some fault)) _ _ c.from_residual-in_err-finish.ensures.1
    (refuses_with _ _ _
    (c.statements.invariant.progress.faults ∙ statements_end c.statements.file.signature c.statements.reader c.statements-test.ensures)
    (c.in_err-finish.ensures c.statements.file.signature))

pub returns-clause-file : goal.returns-clause-file
returns-clause-file c =
    let σ = c.statements.file.signature in
    file_read c.args.bytes.now c.statements.reader c.statements.file c.if-bytes-gt-MOST_BYTES.false
    (c.statements.invariant.progress.faults ∙ statements_end σ c.statements.reader c.statements-test.ensures ∙ c.in_ok-finish.ensures σ)
    (nothing_left σ c.statements.reader (c.in_ok-finish.ensures σ)) c.statements.invariant.progress

pub returns-clause-well_formed : goal.returns-clause-well_formed
returns-clause-well_formed c = files_are_well_formed c.args.bytes.now c.statements.file (returns-clause-file c)
