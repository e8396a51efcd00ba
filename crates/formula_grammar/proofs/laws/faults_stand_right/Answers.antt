use Rattle.formula_grammar.proofs.Standing.{file_faults_stand_right, formula_faults_stand_right, faultless_files_read, faultless_formulas_read}
use Rattle.formula_grammar.proofs.laws.faults_stand_right.Goals as goal

pub returns-clause-files : goal.returns-clause-files
returns-clause-files c = file_faults_stand_right

pub returns-clause-formulas : goal.returns-clause-formulas
returns-clause-formulas c = formula_faults_stand_right

pub returns-clause-faultless_files : goal.returns-clause-faultless_files
returns-clause-faultless_files c = faultless_files_read

pub returns-clause-faultless_formulas : goal.returns-clause-faultless_formulas
returns-clause-faultless_formulas c = faultless_formulas_read
