use Rattle.classical.proofs.Stable.{by_cases}
use Rattle.classical.proofs.laws.stable_laws.Goals as goal

pub returns-clause-cases : goal.returns-clause-cases
returns-clause-cases g c = by_cases g.F.Facts.first
