use Rattle.std.proofs.Common.{◌≡◌, ◌+◌, ◌*◌, cond, length}
use Rattle.std.specs.Prelude.{MatchBool, All}
use Rattle.basic_solver.specs.Flags.{AreClasses, left_over, IsGrounded, IsStuck}
use Rattle.basic_solver.proofs.grounding.grounded.Given as goal

abbrev pub invariant-loop-changed : goal.invariant-loop-changed
invariant-loop-changed l = record {
  size : length l.done.items ≡ length l.names;
  kept : AreClasses l.names l.atoms → IsGrounded l.names l.atoms l.done.items;
  over : MatchBool l.changed (Unit {0}) (All (IsStuck l.names l.done.items) l.atoms);
}

abbrev pub decreases-loop-changed : goal.decreases-loop-changed
decreases-loop-changed l = left_over l.done.items * 2 + cond l.changed 1 0
