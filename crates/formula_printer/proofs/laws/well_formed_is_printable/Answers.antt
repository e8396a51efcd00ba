use Rattle.formula_printer.proofs.Over.{statement_printable}
use Rattle.formula_printer.proofs.laws.well_formed_is_printable.Goals as goal

pub returns : goal.returns
returns c = statement_printable
