use Rattle.std.proofs.Common.{ℕ, ◌≡◌, ◌<◌, length}
use Rattle.std.specs.Prelude.{◌↔◌}
use Rattle.reachability.specs.Flags.{IsSet}
use Rattle.reachability.proofs.reaching.first_marked.Given as goal

abbrev pub invariant-loop-v : goal.invariant-loop-v
invariant-loop-v l = record {
  size : length l.marks.items ≡ l.count;
  marked : (u : ℕ) → IsSet l.marks.items u ↔ (u < l.v);
}
