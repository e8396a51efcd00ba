use Rattle.std.proofs.Common.{◌≡◌, ◌<◌, ◌+◌, ◌*◌, length}
use Rattle.std.specs.Prelude.{All}
use Rattle.basic_solver.specs.Flags.{AreClasses, left_over, AreReached}
use Rattle.basic_solver.proofs.reaching.spread.Given as goal

abbrev pub invariant-loop-name : goal.invariant-loop-name
invariant-loop-name l = record {
  size : length l.marks.items ≡ length l.names;
  kept : AreClasses l.names l.atoms → AreReached l.names l.atoms l.fn.marks.items → AreReached l.names l.atoms l.marks.items;
  stack : All (λ name. name < length l.names) l.stack.items;
}

abbrev pub decreases-loop-name : goal.decreases-loop-name
decreases-loop-name l = 2 * left_over l.marks.items + length l.stack.items
