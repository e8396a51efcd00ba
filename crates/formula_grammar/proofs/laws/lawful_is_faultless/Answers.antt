use Rattle.formula_grammar.proofs.Faultless.{lawful_files, lawful_formulas}
use Rattle.formula_grammar.proofs.laws.lawful_is_faultless.Goals as goal

pub returns : goal.returns
returns c = record { files = lawful_files; formulas = lawful_formulas }
