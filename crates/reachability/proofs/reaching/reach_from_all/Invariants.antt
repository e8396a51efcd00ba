use Rattle.std.proofs.Common.{◌≡◌, ◌<◌, ℕ, length}
use Rattle.std.specs.Prelude.{All}
use Rattle.reachability.specs.Flags.{AreUnder}
use Rattle.reachability.proofs.reaching.reach_from_all.Given as goal

abbrev pub invariant-loop-atom : goal.invariant-loop-atom
invariant-loop-atom l = record {
  size : length l.marks ≡ length l.fn.marks;
  kept : (first : ℕ) → AreUnder first l.atoms l.fn.marks → AreUnder first l.atoms l.marks;
  stack : All (λ x. x < length l.fn.marks) l.fn.stack.items → All (λ x. x < length l.fn.marks) l.stack.items;
}
