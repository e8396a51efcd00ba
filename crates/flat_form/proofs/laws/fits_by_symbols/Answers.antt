use Rattle.flat_form.proofs.Symbols.{fits_by_symbols}
use Rattle.flat_form.proofs.laws.fits_by_symbols.Goals as goal

pub returns : goal.returns
returns c = fits_by_symbols
