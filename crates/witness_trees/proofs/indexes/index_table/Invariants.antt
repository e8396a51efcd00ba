use Rattle.witness_trees.proofs.Used.{AreNoted}
use Rattle.witness_trees.proofs.indexes.index_table.Given as goal

abbrev pub invariant-loop-i : goal.invariant-loop-i
invariant-loop-i l = AreNoted l.count l.opens l.free l.indexes.items l.i
