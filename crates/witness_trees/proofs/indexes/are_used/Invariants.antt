use Rattle.std.proofs.Common.{◌≡◌, length, take}
use Rattle.witness_trees.proofs.Used.{Tells}
use Rattle.witness_trees.proofs.indexes.are_used.Given as goal

abbrev pub invariant-loop-k : goal.invariant-loop-k
invariant-loop-k l = record {
  size : length l.flags.items ≡ l.size;
  tells : Tells l.size l.flags.items (take l.k-index l.used);
}
