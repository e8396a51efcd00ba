use Rattle.flat_form.specs.Numbering.{BasicOver}
use Rattle.witness_trees.proofs.tests.basic.Given as goal

abbrev pub invariant-loop-place : goal.invariant-loop-place
invariant-loop-place l = BasicOver l.n l.atoms
