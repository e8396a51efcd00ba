use Rattle.std.proofs.Common.{◌≡◌, ◌==◌, not, filter}
use Rattle.std.specs.List.{range_with_len, list_any}
use Rattle.witness_trees.proofs.indexes.first_unused.Given as goal

abbrev pub invariant-loop-k : goal.invariant-loop-k
invariant-loop-k l = l.free.items ≡ filter (λ k. not (list_any (λ u. u == k) l.used)) (range_with_len 0 l.k)
