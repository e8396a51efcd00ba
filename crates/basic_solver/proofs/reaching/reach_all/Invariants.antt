use Rattle.std.proofs.Common.{◌≡◌, ◌<◌, ◌≤◌, ◌+◌, ◌*◌, length, List}
use Rattle.std.specs.Prelude.{All}
use Rattle.flat_form.specs.declared.atom.Flat.{Flat}
use Rattle.flat_form.specs.Classes.{Reached}
use Rattle.basic_solver.specs.Flags.{AreClasses, left_over, AreReached}
use Rattle.basic_solver.proofs.reaching.reach_all.Given as goal

abbrev pub invariant-loop-i : goal.invariant-loop-i
invariant-loop-i l = record {
  size : length l.marks.items ≡ length l.names;
  kept : (atoms : List Flat) → AreClasses l.names atoms → All (Reached atoms) l.xs
      → AreReached l.names atoms l.initial.marks.items → AreReached l.names atoms l.marks.items;
  stack : All (λ name. name < length l.names) l.initial.stack.items → All (λ name. name < length l.names) l.stack.items;
  less : 2 * left_over l.marks.items + length l.stack.items ≤ 2 * left_over l.initial.marks.items + length l.initial.stack.items;
}
