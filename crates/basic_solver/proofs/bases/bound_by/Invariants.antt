use Rattle.std.proofs.Common.{◌≡◌, length, take}
use Rattle.basic_solver.specs.Outcomes.{LeavesOpen}
use Rattle.basic_solver.proofs.Based.{IsClean, IsUsed}
use Rattle.basic_solver.proofs.bases.bound_by.Given as goal

abbrev pub invariant-loop-i : goal.invariant-loop-i
invariant-loop-i l = record {
  size : length l.bound.items ≡ l.count;
  clean : IsClean LeavesOpen (take l.i l.base) l.bound.items;
  used : IsUsed LeavesOpen l.base l.bound.items;
}
