use Rattle.flat_form.specs.Numbering.{BasicOver}
use Rattle.reachability.proofs.tests.list.Given as goal

abbrev pub invariant-loop-i : goal.invariant-loop-i
invariant-loop-i l = BasicOver 8 l.atoms
