use Rattle.reachability.specs.Flags.{IsSet}
use Rattle.reachability.specs.Splitting.{AreThose}
use Rattle.cube_reduction.proofs.grouping.others.Given as goal

abbrev pub invariant-loop-v : goal.invariant-loop-v
invariant-loop-v l = AreThose (λ v. ¬ IsSet l.flags.items v) l.first l.v l.kept
