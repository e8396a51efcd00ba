use Rattle.std.proofs.Common.{ℕ, ◌≡◌, rules, arith, refl}
use Rattle.reachability.proofs.Mentioned.{none_has}
use Rattle.reachability.proofs.mentioning.is_among.Goals as goal

pub returns : goal.returns
returns c = (
  λ t. absurd (search rules),
  λ inside. absurd (none_has (λ (x : ℕ). x ≡ c.args.v) c.args.xs.now c.loop-x.x-index (omega arith) c.loop-x.invariant c.args.v inside refl),
)
