use Rattle.std.proofs.Common.{◌≡◌, not, filter}
use Rattle.std.specs.List.{range_with_len, list_any}
use Rattle.witness_trees.specs.Fresh.{defines}
use Rattle.witness_trees.proofs.indexes.all_open.Given as goal

abbrev pub invariant-loop-v : goal.invariant-loop-v
invariant-loop-v l = l.opens.items ≡ filter (λ v. not (list_any (defines v) l.atoms)) (range_with_len 0 l.v)
