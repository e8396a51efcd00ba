use Rattle.std.proofs.Common.{take}
use Rattle.std.specs.Prelude.{All}
use Rattle.flat_form.specs.Steps.{Mentions}
use Rattle.cube_reduction.proofs.clearing.mentions_some.Given as goal

abbrev pub invariant-loop-v : goal.invariant-loop-v
invariant-loop-v l = All (λ v. ¬ Mentions l.part v) (take l.v-index l.vs)
