use Rattle.flattening.proofs.Fitting.{formula_fits}
use Rattle.flattening.proofs.laws.well_formed_fits.Goals as goal

pub returns : goal.returns
returns c = formula_fits
