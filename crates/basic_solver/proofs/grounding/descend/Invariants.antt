use Rattle.std.proofs.Common.{◌≡◌, ◌+◌, ◌*◌, length}
use Rattle.std.specs.Prelude.{All}
use Rattle.basic_solver.specs.Flags.{AreClasses, left_over, IsGrounded}
use Rattle.basic_solver.specs.Visits.{IsVisit}
use Rattle.basic_solver.proofs.grounding.descend.Given as goal

abbrev pub invariant-loop-visit : goal.invariant-loop-visit
invariant-loop-visit l = record {
  size : length l.done.items ≡ length l.names;
  kept : AreClasses l.names l.atoms → IsGrounded l.names l.atoms l.fn.done.items → IsGrounded l.names l.atoms l.done.items;
  seen : length l.seen.items ≡ length l.names;
  visits : All (IsVisit (length l.names) (length l.atoms)) l.visits.items;
}

abbrev pub decreases-loop-visit : goal.decreases-loop-visit
decreases-loop-visit l = 10 * left_over l.seen.items + length l.visits.items
