use Rattle.formula_grammar.proofs.Behind.{file_kinds, formula_kinds, file_no_further, formula_no_further}
use Rattle.formula_grammar.proofs.laws.kinds_say_why.Goals as goal

pub returns : goal.returns
returns c = record {
  files = file_kinds;
  formulas = formula_kinds;
  files_no_further = file_no_further;
  formulas_no_further = formula_no_further;
}
