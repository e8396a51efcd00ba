use Rattle.flat_form.specs.Numbering.{BasicOver}
use Rattle.reachability.proofs.tests.chain.Given as goal

abbrev pub invariant-loop-i : goal.invariant-loop-i
invariant-loop-i l = BasicOver l.count l.atoms
