use Rattle.std.proofs.Common.{ℕ, take, ◌⊎◌}
use Rattle.std.specs.Prelude.{◌↔◌, Contains}
use Rattle.finiteness.specs.Marks.{IsBareIn}
use Rattle.finiteness.proofs.leaves.gather.Given as goal

abbrev pub invariant-loop-x : goal.invariant-loop-x
invariant-loop-x l = (u : ℕ) → Contains l.found.items u ↔ (Contains l.initial.found.items u ⊎ IsBareIn l.b (take l.x-index l.xs) u)
