use Rattle.std.proofs.Common.{ℕ, List, [], drop}
use Rattle.flat_form.specs.declared.cube.Cube.{Cube}
use Rattle.flat_form.specs.Numbering.{CubesOver}
use Rattle.step_facts.specs.Lists.{TakesSteps}
use Rattle.normal_form.proofs.taking.take_all.Given as goal

abbrev pub invariant-loop-raw : goal.invariant-loop-raw
invariant-loop-raw l = record {
  over : (n : ℕ) → CubesOver n l.raws → CubesOver n l.out;
  takes : (out : List Cube) → TakesSteps l.out (drop l.raw-index l.raws) out → TakesSteps [] l.raws out;
}
