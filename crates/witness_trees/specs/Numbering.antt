-- Nodes that are numbered one after the other.
use Rattle.std.specs.Prelude.{◌≡◌, ℕ, ◌<◌, ◌≤◌, ◌⊎◌, List, ◌++◌, length, map, flat_map, take, slice_get, slice_index, Some, All, Contains}
use Rattle.tree_model.specs.declared.tree.Node.{Node}
use Rattle.formula_ast.specs.Occurrences.{first_occurrences}
use Rattle.flat_form.specs.Orders.{place_of}
use Rattle.witness_trees.specs.Breadth.{node_of}
use Rattle.witness_trees.specs.Meeting.{AreEntered}

-- the table has the label of each variable below its length
abbrev pub AreLabels : (ℕ → Node) → List Node → Type 0
AreLabels label labels = (v : ℕ) → v < length labels → slice_get labels v ≡ Some (label v)

-- the node has this label, and its children were met
pub record IsNext (label : Node) (old new : List ℕ) (node : Node) : Type 0 where
  pub symbol : node.symbol ≡ label.symbol
  pub entered : AreEntered old new label.children node.children

-- the first of the order have nodes, and their children were met
pub record AreNumbered (label : ℕ → Node) (tops order : List ℕ) (nodes : List Node) (roots : List ℕ) : Type 0 where
  pub low : length nodes ≤ length order
  pub collected : order ≡ first_occurrences (tops ++ flat_map (λ v. (label v).children) (take (length nodes) order))
  pub before : (i : ℕ) → i < length order
      → Contains tops (slice_index order i) ⊎ ((j : ℕ) × (j < i) × Contains (label (slice_index order j)).children (slice_index order i))
  pub children_met : All (λ v. All (Contains order) (label v).children) (take (length nodes) order)
  pub nodes_are : nodes ≡ map (node_of label order) (take (length nodes) order)
  pub tops_met : All (Contains order) tops
  pub roots_are : roots ≡ map (place_of order) tops
