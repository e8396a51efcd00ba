use Rattle.std.proofs.Common.{ℕ, take}
use Rattle.std.specs.Prelude.{◌↔◌, Contains}
use Rattle.std.specs.List.Sorted.{IsStrictlyIncreasing}
use Rattle.finiteness.proofs.leaves.each_once.Given as goal

abbrev pub invariant-loop-i : goal.invariant-loop-i
invariant-loop-i l = record {
  ascending : IsStrictlyIncreasing l.once;
  same : (u : ℕ) → Contains l.once u ↔ Contains (take l.i l.numbers) u;
}
