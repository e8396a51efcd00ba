use Rattle.std.proofs.Common.{◌≡◌, ◌<◌, length, take}
use Rattle.std.specs.Prelude.{MatchBool, All}
use Rattle.basic_solver.specs.Flags.{AreClasses, left_over, AreReached, IsPassedOn}
use Rattle.basic_solver.proofs.reaching.pass_all_on.Given as goal

abbrev pub invariant-loop-i : goal.invariant-loop-i
invariant-loop-i l = record {
  size : length l.marks.items ≡ length l.names;
  kept : AreClasses l.names l.atoms → AreReached l.names l.atoms l.initial.marks.items → AreReached l.names l.atoms l.marks.items;
  told : MatchBool l.changed (left_over l.marks.items < left_over l.initial.marks.items)
      ((l.marks.items ≡ l.initial.marks.items) × All (IsPassedOn l.names l.initial.marks.items) (take l.i l.atoms));
}
