use Rattle.std.proofs.Common.{◌≡◌, ◌<◌, length}
use Rattle.std.specs.Prelude.{All}
use Rattle.basic_solver.specs.Flags.{AreClasses, AreReached}
use Rattle.basic_solver.proofs.reaching.reach_from_all.Given as goal

abbrev pub invariant-loop-i : goal.invariant-loop-i
invariant-loop-i l = record {
  size : length l.marks.items ≡ length l.names;
  kept : AreClasses l.names l.atoms → AreReached l.names l.atoms l.initial.marks.items → AreReached l.names l.atoms l.marks.items;
  stack : All (λ name. name < length l.names) l.initial.stack.items → All (λ name. name < length l.names) l.stack.items;
}
