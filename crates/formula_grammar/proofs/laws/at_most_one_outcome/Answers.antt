use Rattle.formula_grammar.proofs.Outcomes.{never_both, never_both_of_formula, files_or_fault, statements_or_fault}
use Rattle.formula_grammar.proofs.laws.at_most_one_outcome.Goals as goal

pub returns : goal.returns
returns c = record { never_both = never_both; formulas = never_both_of_formula; files_or_fault = files_or_fault; statements_or_fault = statements_or_fault }
