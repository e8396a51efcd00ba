use Rattle.std.specs.Prelude.{All}
use Rattle.flat_form.specs.Numbering.{PartOver}
use Rattle.normal_form.proofs.tests.Reader.cube.Given as goal

abbrev pub invariant-loop-place : goal.invariant-loop-place
invariant-loop-place l = All (PartOver l.m) l.parts
