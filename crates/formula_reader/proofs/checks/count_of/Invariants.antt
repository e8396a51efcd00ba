use Rattle.std.proofs.Common.{◌≤◌}
use Rattle.formula_reader.proofs.Checking.{Counted}
use Rattle.formula_reader.proofs.checks.count_of.Given as goal

abbrev pub invariant-loop-place : goal.invariant-loop-place
invariant-loop-place l = record {
  counted : Counted l.kind l.signature l.place l.count;
  few : l.count ≤ l.place;
}
