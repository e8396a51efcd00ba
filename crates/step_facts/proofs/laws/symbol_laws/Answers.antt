use Rattle.step_facts.proofs.StepFits.{outcome_symbols, outcome_fits}
use Rattle.step_facts.proofs.laws.symbol_laws.Goals as goal

pub returns-clause-symbols : goal.returns-clause-symbols
returns-clause-symbols c = outcome_symbols

pub returns-clause-fits : goal.returns-clause-fits
returns-clause-fits c = outcome_fits
