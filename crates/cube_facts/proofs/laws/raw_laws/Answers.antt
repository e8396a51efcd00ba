use Rattle.cube_facts.proofs.Joined.{joined_means}
use Rattle.cube_facts.proofs.Opened.{opened_means}
use Rattle.cube_facts.proofs.Denied.{denied_means}
use Rattle.cube_facts.proofs.Raws.{raws_are_well_numbered, raws_fit, raws_have_symbols}
use Rattle.cube_facts.proofs.laws.raw_laws.Goals as goal

pub returns-clause-joined : goal.returns-clause-joined
returns-clause-joined c = joined_means

pub returns-clause-opened : goal.returns-clause-opened
returns-clause-opened c = opened_means

pub returns-clause-denied : goal.returns-clause-denied
returns-clause-denied c = denied_means

pub returns-clause-well_numbered : goal.returns-clause-well_numbered
returns-clause-well_numbered c = raws_are_well_numbered

pub returns-clause-fit : goal.returns-clause-fit
returns-clause-fit c = raws_fit

pub returns-clause-symbols : goal.returns-clause-symbols
returns-clause-symbols c = raws_have_symbols
