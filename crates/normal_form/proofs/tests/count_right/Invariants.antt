use Rattle.std.proofs.Common.{◌≤◌}
use Rattle.normal_form.proofs.tests.count_right.Given as goal

abbrev pub invariant-loop-place : goal.invariant-loop-place
invariant-loop-place l = l.count ≤ l._place
