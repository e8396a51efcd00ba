use Rattle.std.proofs.Common.{◌≡◌, length, take}
use Rattle.basic_solver.specs.Outcomes.{IsNoFinite}
use Rattle.basic_solver.proofs.Based.{IsClean, IsUsed}
use Rattle.basic_solver.proofs.bases.said_by.Given as goal

abbrev pub invariant-loop-i : goal.invariant-loop-i
invariant-loop-i l = record {
  size : length l.said.items ≡ length l.names;
  clean : IsClean (IsNoFinite l.names) (take l.i l.base) l.said.items;
  used : IsUsed (IsNoFinite l.names) l.base l.said.items;
}
