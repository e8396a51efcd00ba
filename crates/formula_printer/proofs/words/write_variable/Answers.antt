use Rattle.formula_printer.proofs.Places.{named_at}
use Rattle.formula_printer.proofs.words.write_variable.Goals as goal

pub returns : goal.returns
returns c = rw (named_at c.args.names.now c.args.x c.get.result.now c.get.ensures, ← c.as_str.ensures) c.write_text.ensures
