use Rattle.formula_printer.proofs.Over.{statement_printable}
use Rattle.answer_texts.proofs.wording.printed.Goals as goal

pub print_formula-requires-clause-fits : goal.print_formula-requires-clause-fits
print_formula-requires-clause-fits c = (statement_printable c.args.sig.now c.args.s.now c.requires.words c.requires.formed).1
