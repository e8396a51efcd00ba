use Rattle.formula_grammar.proofs.FormedFiles.{files_are_well_formed, statements_are_well_formed}
use Rattle.formula_grammar.proofs.laws.files_are_well_formed.Goals as goal

pub returns : goal.returns
returns c = record { files = files_are_well_formed; statements = statements_are_well_formed }
