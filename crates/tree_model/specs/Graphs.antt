-- Finite pointed graphs. A rational tree is what such a graph unfolds to.
use Rattle.std.specs.Prelude.{ℕ, ◌<◌, List, length, All, slice_index}
use Rattle.tree_model.specs.declared.tree.Node.{Node}

-- a list of nodes, and the place of the root
pub record Graph : Type 0 where
  pub nodes : List Node
  pub root : ℕ

-- each child of the node is below n
abbrev pub ChildrenBelow : ℕ → Node → Type 0
ChildrenBelow n node = All (λ child. child < n) node.children

-- all children, and the root, are places of the list
pub record IsInRange (nodes : List Node) (root : ℕ) : Type 0 where
  pub children : All (ChildrenBelow (length nodes)) nodes
  pub root_within : root < length nodes

-- a list of nodes with several roots, one for each variable
pub record Forest : Type 0 where
  pub nodes : List Node
  pub roots : List ℕ

-- all children, and all roots, are places of the list
pub record AreInRange (nodes : List Node) (roots : List ℕ) : Type 0 where
  pub children : All (ChildrenBelow (length nodes)) nodes
  pub roots_within : All (λ root. root < length nodes) roots

-- the value of a variable: all the nodes, with the root of the variable
abbrev pub tree_of : Forest → ℕ → Graph
tree_of a variable = record { nodes = a.nodes; root = slice_index a.roots variable }
