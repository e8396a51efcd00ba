use Rattle.std.proofs.Common.{◌≡◌, ◌<◌, length, drop}
use Rattle.tree_model.specs.Trees.{read}
use Rattle.tree_model.proofs.tree.Tree.at.Given as goal

abbrev pub invariant-loop-i : goal.invariant-loop-i
invariant-loop-i l = record {
  within : l.place < length l.self-inside.nodes.items;
  same : read l.self-inside.nodes.items l.place (drop l.i-index l.path) ≡ read l.self-inside.nodes.items l.self-inside.root l.path;
}
