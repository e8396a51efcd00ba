use Rattle.std.proofs.Common.{ℕ, ◌≡◌, ◌-◌, length}
use Rattle.tree_model.specs.declared.tree.Node.{Node}
use Rattle.witness_trees.specs.Numbering.{AreLabels, AreNumbered}
use Rattle.witness_trees.proofs.breadth.numbered.Given as goal

abbrev pub invariant-loop-alloc : goal.invariant-loop-alloc
invariant-loop-alloc l = record {
  count : l.met.count ≡ length l.labels;
  numbered : (label : ℕ → Node) → AreLabels label l.labels → AreNumbered label l.tops l.met.order l.nodes.items l.roots-inside.items.items;
}

abbrev pub decreases-loop-alloc : goal.decreases-loop-alloc
decreases-loop-alloc l = l.met.count - length l.nodes.items
