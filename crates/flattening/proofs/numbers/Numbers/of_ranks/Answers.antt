use Rattle.std.proofs.Common.{List, ℕ, length, get_or, ap, arith}
use Rattle.flattening.proofs.Given.{rank_more}
use Rattle.flattening.proofs.numbers.Numbers.of_ranks.Goals as goal

pub loop-rank-preserved : goal.loop-rank-preserved
loop-rank-preserved c = rank_more _ _ _ _ _ _ (omega (arith, ap (λ (z : List ℕ). length z) c.as_slice-variable-items.ensures)) (ap (λ (z : List ℕ). get_or z c.loop-rank.rank 0) c.as_slice-variable-items.ensures) c.loop-rank.invariant c.in_ok-give.ensures.ok
