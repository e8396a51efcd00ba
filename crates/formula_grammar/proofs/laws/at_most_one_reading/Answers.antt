use Rattle.formula_grammar.specs.Grammar.{files}
use Rattle.formula_grammar.proofs.OneReading.{one_formula_reading, one_file_reading}
use Rattle.formula_grammar.proofs.Outcomes.{reads_as_one_file, reads_as_one_statement}
use Rattle.formula_grammar.proofs.laws.at_most_one_reading.Goals as goal

pub returns : goal.returns
returns c = record {
  files = one_file_reading files;
  formulas = one_formula_reading;
  one_file = reads_as_one_file;
  one_statement = reads_as_one_statement;
}
