use Rattle.std.proofs.Common.{◌≡◌, ◌<◌, ◌≤◌, ◌+◌, ◌*◌, ℕ, length, List}
use Rattle.std.specs.Prelude.{All}
use Rattle.flat_form.specs.declared.atom.Flat.{Flat}
use Rattle.flat_form.specs.Parts.{Under}
use Rattle.reachability.specs.Flags.{left_over, AreUnder}
use Rattle.reachability.proofs.reaching.reach_all.Given as goal

abbrev pub invariant-loop-x : goal.invariant-loop-x
invariant-loop-x l = record {
  size : length l.marks ≡ length l.fn.marks;
  kept : (first : ℕ) (atoms : List Flat) → All (Under first atoms) l.xs → AreUnder first atoms l.fn.marks → AreUnder first atoms l.marks;
  stack : All (λ x. x < length l.fn.marks) l.fn.stack.items → All (λ x. x < length l.fn.marks) l.stack.items;
  less : 2 * left_over l.marks + length l.stack.items ≤ 2 * left_over l.fn.marks + length l.fn.stack.items;
}
