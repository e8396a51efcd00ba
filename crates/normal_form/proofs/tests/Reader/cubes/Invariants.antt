use Rattle.flat_form.specs.Numbering.{CubesOver}
use Rattle.normal_form.proofs.tests.Reader.cubes.Given as goal

abbrev pub invariant-loop-place : goal.invariant-loop-place
invariant-loop-place l = CubesOver l.free l.cubes
