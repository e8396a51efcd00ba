use Rattle.std.proofs.Common.{ℕ, ◌≡◌, rules, arith, refl}
use Rattle.reachability.proofs.Mentioned.{none_has}
use Rattle.cube_reduction.proofs.clearing.is_one_of.Goals as goal

pub returns : goal.returns
returns c = (
  λ t. absurd (search rules),
  λ inside. absurd (none_has (λ (x : ℕ). x ≡ c.args.v) c.args.vs.now c.loop-w.w-index (omega arith) c.loop-w.invariant c.args.v inside refl),
)
