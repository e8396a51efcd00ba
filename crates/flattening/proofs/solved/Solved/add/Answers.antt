use Rattle.std.proofs.Common.{subst, sym}
use Rattle.flattening.specs.Tables.{HasDistinctKeys}
use Rattle.flattening.proofs.Table.{distinct_more}
use Rattle.flattening.proofs.solved.Solved.add.Goals as goal

pub invariant_of-self-2 : goal.invariant_of-self-2
invariant_of-self-2 c =
    subst HasDistinctKeys (sym c.in_ok-push.ensures.items) (distinct_more _ _ _ c.self.invariant (rw (← c.self.view_is) at c.requires))
