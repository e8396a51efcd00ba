use Rattle.signature.proofs.Standing.{distinct_kept}
use Rattle.signature.proofs.Signature.len.Goals as goal

pub returns-clause-distinct : goal.returns-clause-distinct
returns-clause-distinct c = rw (← c.self.view_is) (distinct_kept _ c.len.ensures.unique)
