use Rattle.flattening.proofs.Flattened.{flattened_symbols, flattened_fits}
use Rattle.flattening.proofs.FormSymbols.{symbols_fit}
use Rattle.flattening.proofs.laws.flattening_keeps_symbols.Goals as goal

pub returns-clause-symbols : goal.returns-clause-symbols
returns-clause-symbols c = flattened_symbols

pub returns-clause-fits : goal.returns-clause-fits
returns-clause-fits c = flattened_fits

pub returns-clause-formula : goal.returns-clause-formula
returns-clause-formula c = symbols_fit
