use Rattle.std.proofs.Common.{ℕ, ◌≡◌, ◌<◌, ◌≤◌, length, slice_index}
use Rattle.numbering.proofs.renumbering.unmet.Given as goal

abbrev pub invariant-loop-v : goal.invariant-loop-v
invariant-loop-v l = record {
  size : length l.numbers.items ≡ l.count;
  low : (k : ℕ) → k < l.first → k < l.v → slice_index l.numbers.items k ≡ k;
  others : (k : ℕ) → l.first ≤ k → k < l.count → slice_index l.numbers.items k ≡ l.other;
}
