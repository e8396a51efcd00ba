use Rattle.std.proofs.Common.{◌≡◌, List, ◌++◌, map, drop, Some}
use Rattle.std.specs.Prelude.{slice_get}
use Rattle.flat_form.specs.declared.cube.Cube.{Cube}
use Rattle.flat_form.specs.Numbering.{CubesOver}
use Rattle.flat_form.specs.Raws.{joined}
use Rattle.step_facts.specs.Lists.{TakesSteps}
use Rattle.normal_form.proofs.taking.take_joined.Given as goal

abbrev pub invariant-loop-other : goal.invariant-loop-other
invariant-loop-other l = record {
  stands : slice_get l.memory l.left ≡ Some l.one;
  over : CubesOver l.one.free l.fn.out → CubesOver l.one.free l.out;
  takes : (rest out : List Cube) → TakesSteps l.out (map (joined l.one) (drop l.other-index l.others) ++ rest) out
      → TakesSteps l.fn.out (map (joined l.one) l.others ++ rest) out;
}
