use Rattle.formula_printer.proofs.Places.{declared_name}
use Rattle.formula_printer.proofs.words.write_name.Goals as goal

pub returns : goal.returns
returns c = rw (declared_name c.args.sig.now c.args.place c.name.result.now c.name.ensures) c.write_text.ensures
