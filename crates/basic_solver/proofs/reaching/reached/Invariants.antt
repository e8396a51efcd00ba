use Rattle.std.proofs.Common.{◌≡◌, ◌+◌, ◌*◌, cond, length}
use Rattle.std.specs.Prelude.{MatchBool, All}
use Rattle.basic_solver.specs.Flags.{AreClasses, left_over, AreReached, IsPassedOn}
use Rattle.basic_solver.proofs.reaching.reached.Given as goal

abbrev pub invariant-loop-changed : goal.invariant-loop-changed
invariant-loop-changed l = record {
  size : length l.marks.items ≡ length l.names;
  kept : AreClasses l.names l.atoms → AreReached l.names l.atoms l.marks.items;
  over : MatchBool l.changed (Unit {0}) (All (IsPassedOn l.names l.marks.items) l.atoms);
}

abbrev pub decreases-loop-changed : goal.decreases-loop-changed
decreases-loop-changed l = left_over l.marks.items * 2 + cond l.changed 1 0
