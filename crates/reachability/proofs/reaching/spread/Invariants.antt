use Rattle.std.proofs.Common.{◌≡◌, ◌<◌, ◌+◌, ◌*◌, ℕ, length}
use Rattle.std.specs.Prelude.{All}
use Rattle.reachability.specs.Flags.{left_over, AreUnder}
use Rattle.reachability.proofs.reaching.spread.Given as goal

abbrev pub invariant-loop-v : goal.invariant-loop-v
invariant-loop-v l = record {
  size : length l.marks ≡ length l.fn.marks;
  kept : (first : ℕ) → AreUnder first l.atoms l.fn.marks → AreUnder first l.atoms l.marks;
  stack : All (λ x. x < length l.fn.marks) l.stack.items;
}

abbrev pub decreases-loop-v : goal.decreases-loop-v
decreases-loop-v l = 2 * left_over l.marks + length l.stack.items
