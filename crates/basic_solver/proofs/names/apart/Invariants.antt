use Rattle.std.proofs.Common.{ℕ, ◌≡◌, ◌<◌, length}
use Rattle.std.specs.Prelude.{slice_index}
use Rattle.basic_solver.proofs.names.apart.Given as goal

abbrev pub invariant-loop-v : goal.invariant-loop-v
invariant-loop-v l = record {
  size : length l.names.items ≡ l.v;
  own : (k : ℕ) → k < l.v → slice_index l.names.items k ≡ k;
}
