use Rattle.std.proofs.Common.{sym}
use Rattle.formula_reader.proofs.Steps.{refused_as}
use Rattle.formula_reader.proofs.StatementReading.{refused_statement}
use Rattle.formula_reader.proofs.reader.Reader.statement.Goals as goal

pub returns-else-sees-3 : goal.returns-else-sees-3
returns-else-sees-3 c =
    refused_as _ _ c.fault.ensures
    (refused_statement c.args.file.now.signature c.args.self.now c.requires.0 c.requires.1 c.requires.2 (sym c.if-sees.ensures) (sym c.if-sees-2.ensures) (sym c.if-sees-3.ensures))
