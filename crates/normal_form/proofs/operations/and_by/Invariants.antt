use Rattle.std.proofs.Common.{ℕ, List, drop}
use Rattle.flat_form.specs.declared.cube.Cube.{Cube}
use Rattle.flat_form.specs.Numbering.{CubesOver}
use Rattle.step_facts.specs.Lists.{TakesSteps, IsAnd}
use Rattle.list_facts.proofs.Lists.{pairs}
use Rattle.normal_form.proofs.operations.and_by.Given as goal

abbrev pub invariant-loop-one : goal.invariant-loop-one
invariant-loop-one l = record {
  over : (n : ℕ) → CubesOver n l.a → CubesOver n l.b → CubesOver n l.out;
  takes : (out : List Cube) → TakesSteps l.out (pairs (drop l.one-index l.a) l.b) out → IsAnd l.a l.b out;
}
