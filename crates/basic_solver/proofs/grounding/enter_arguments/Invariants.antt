use Rattle.std.proofs.Common.{ℕ, ◌≡◌, ◌+◌, length}
use Rattle.std.specs.Prelude.{All}
use Rattle.basic_solver.specs.Visits.{IsVisit}
use Rattle.basic_solver.proofs.grounding.enter_arguments.Given as goal

abbrev pub invariant-loop-i : goal.invariant-loop-i
invariant-loop-i l = record {
  visits : (n : ℕ) → All (IsVisit (length l.names) n) l.initial.visits.items → All (IsVisit (length l.names) n) l.visits.items;
  more : length l.visits.items ≡ length l.initial.visits.items + l.i;
}
