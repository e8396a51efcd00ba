use Rattle.flat_form.specs.Normals.{norms_of}
use Rattle.flat_form.specs.Numbering.{NormsOver}
use Rattle.normal_form.proofs.tests.Reader.+normal.Given as goal

abbrev pub decreases-normal : goal.decreases-normal
decreases-normal l = l.depth

abbrev pub invariant-loop-place : goal.invariant-loop-place
invariant-loop-place l = NormsOver l.m (norms_of l.parts)
