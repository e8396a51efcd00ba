use Rattle.std.specs.Prelude.{All}
use Rattle.flat_form.specs.declared.cube.Part.{Part}
use Rattle.flat_form.specs.Numbering.{PartOver}
use Rattle.flat_form.specs.Solved.{Ascends}
use Rattle.numbering.proofs.tests.three.Given as goal

abbrev pub invariant-loop-atoms : goal.invariant-loop-atoms
invariant-loop-atoms l = All (λ (part : Part). PartOver 1 part × Ascends part.basic) l.parts
