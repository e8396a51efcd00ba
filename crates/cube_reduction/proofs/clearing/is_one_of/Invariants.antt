use Rattle.std.proofs.Common.{◌≡◌, take}
use Rattle.std.specs.Prelude.{All}
use Rattle.cube_reduction.proofs.clearing.is_one_of.Given as goal

abbrev pub invariant-loop-w : goal.invariant-loop-w
invariant-loop-w l = All (λ x. ¬ (x ≡ l.v)) (take l.w-index l.vs)
