use Rattle.std.proofs.Common.{◌≡◌, ◌<◌, length, take}
use Rattle.std.specs.Prelude.{MatchBool, All}
use Rattle.basic_solver.specs.Flags.{AreClasses, left_over, IsGrounded, IsStuck}
use Rattle.basic_solver.proofs.grounding.ground_all.Given as goal

abbrev pub invariant-loop-i : goal.invariant-loop-i
invariant-loop-i l = record {
  size : length l.done.items ≡ length l.names;
  kept : AreClasses l.names l.atoms → IsGrounded l.names l.atoms l.initial.done.items → IsGrounded l.names l.atoms l.done.items;
  told : MatchBool l.changed (left_over l.done.items < left_over l.initial.done.items)
      ((l.done.items ≡ l.initial.done.items) × All (IsStuck l.names l.initial.done.items) (take l.i l.atoms));
}
