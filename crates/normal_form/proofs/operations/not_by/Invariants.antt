use Rattle.std.proofs.Common.{List, drop}
use Rattle.flat_form.specs.declared.cube.Cube.{Cube}
use Rattle.flat_form.specs.Numbering.{CubesOver}
use Rattle.step_facts.specs.Lists.{DeniesEach, IsNot}
use Rattle.normal_form.proofs.operations.not_by.Given as goal

abbrev pub invariant-loop-cube : goal.invariant-loop-cube
invariant-loop-cube l = record {
  over : CubesOver l.free l.out;
  denies : (out : List Cube) → DeniesEach l.out (drop l.cube-index l.a) out → IsNot l.free l.a out;
}
