use Rattle.std.proofs.Common.{ℕ, ◌≡◌, length, take}
use Rattle.std.specs.Prelude.{Contains, ◌↔◌}
use Rattle.reachability.specs.Flags.{IsSet}
use Rattle.cube_reduction.proofs.grouping.flags_of.Given as goal

abbrev pub invariant-loop-x : goal.invariant-loop-x
invariant-loop-x l = record {
  size : length l.flags.items ≡ l.count;
  is : (v : ℕ) → IsSet l.flags.items v ↔ Contains (take l.x-index l.xs) v;
}
