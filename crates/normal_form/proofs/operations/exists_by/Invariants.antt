use Rattle.std.proofs.Common.{ℕ, ◌-◌, List, map, drop}
use Rattle.flat_form.specs.declared.cube.Cube.{Cube}
use Rattle.flat_form.specs.Numbering.{CubesOver}
use Rattle.flat_form.specs.Raws.{opened}
use Rattle.step_facts.specs.Lists.{TakesSteps, IsExists}
use Rattle.normal_form.proofs.operations.exists_by.Given as goal

abbrev pub invariant-loop-cube : goal.invariant-loop-cube
invariant-loop-cube l = record {
  over : (n : ℕ) → CubesOver n l.a → CubesOver (n - l.quantified) l.out;
  takes : (out : List Cube) → TakesSteps l.out (map (opened l.quantified) (drop l.cube-index l.a)) out → IsExists l.quantified l.a out;
}
