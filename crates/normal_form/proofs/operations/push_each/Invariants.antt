use Rattle.std.proofs.Common.{List, ◌++◌, drop}
use Rattle.flat_form.specs.declared.cube.Cube.{Cube}
use Rattle.step_facts.specs.Lists.{KeepsFirst}
use Rattle.normal_form.proofs.operations.push_each.Given as goal

abbrev pub invariant-loop-cube : goal.invariant-loop-cube
invariant-loop-cube l = (rest all : List Cube) → KeepsFirst l.out (drop l.cube-index l.cubes ++ rest) all → KeepsFirst l.fn.out (l.cubes ++ rest) all
