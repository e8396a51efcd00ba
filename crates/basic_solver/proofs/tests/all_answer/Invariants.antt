use Rattle.std.proofs.Common.{◌≡◌, ◌≤◌, length}
use Rattle.basic_solver.specs.Stores.{open_in}
use Rattle.basic_solver.proofs.tests.all_answer.Given as goal

abbrev pub invariant-loop-i : goal.invariant-loop-i
invariant-loop-i l = record {
  open_still : 8 ≤ open_in l.store.scopes;
  scopes : length l.store.scopes ≡ length l.initial.store.scopes;
}
