use Rattle.formula_printer.proofs.NewNames.{are_new}
use Rattle.formula_printer.proofs.laws.bound_names_are_printable.Goals as goal

pub returns : goal.returns
returns c = are_new
