use Rattle.std.proofs.Common.{ℕ, ◌≡◌, ◌<◌, length, Some}
use Rattle.std.specs.Prelude.{All, slice_get}
use Rattle.tree_model.specs.Graphs.{ChildrenBelow}
use Rattle.witness_trees.specs.Fresh.{label_by}
use Rattle.std.specs.Prelude.{slice_index}
use Rattle.witness_trees.proofs.labels.labels.Given as goal

abbrev pub invariant-loop-v : goal.invariant-loop-v
invariant-loop-v l = record {
  size : length l.labels.items ≡ l.v;
  are : (u : ℕ) → u < l.v → slice_get l.labels.items u ≡ Some (label_by l.c.basic (slice_index l.indexes.items u) u);
  below : All (ChildrenBelow (length l.places)) l.labels.items;
}
