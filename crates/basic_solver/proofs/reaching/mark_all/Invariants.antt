use Rattle.std.proofs.Common.{◌≡◌, ◌<◌, length, take, List}
use Rattle.std.specs.Prelude.{MatchBool, All}
use Rattle.flat_form.specs.declared.atom.Flat.{Flat}
use Rattle.flat_form.specs.Classes.{Reached}
use Rattle.basic_solver.specs.Flags.{AreClasses, IsSet, left_over, AreReached}
use Rattle.basic_solver.proofs.reaching.mark_all.Given as goal

abbrev pub invariant-loop-i : goal.invariant-loop-i
invariant-loop-i l = record {
  size : length l.marks.items ≡ length l.names;
  kept : (atoms : List Flat) → AreClasses l.names atoms → All (Reached atoms) l.xs
      → AreReached l.names atoms l.initial.marks.items → AreReached l.names atoms l.marks.items;
  told : MatchBool l.changed (left_over l.marks.items < left_over l.initial.marks.items)
      ((l.marks.items ≡ l.initial.marks.items) × All (IsSet l.names l.initial.marks.items) (take l.i l.xs));
}
