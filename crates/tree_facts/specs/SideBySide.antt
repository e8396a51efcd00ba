-- Several graphs in one list of nodes.
use Rattle.std.specs.Prelude.{ℕ, zero, suc, ◌+◌, List, [], ◌∷◌, ◌++◌, map, length}
use Rattle.tree_model.specs.declared.tree.Node.{Node}
use Rattle.tree_model.specs.Graphs.{Graph, IsInRange}

-- the graph's children and root are in range
abbrev pub IsGraphInRange : Graph → Type 0
IsGraphInRange t = IsInRange t.nodes t.root

-- the node with its children k places on
abbrev pub shift : ℕ → Node → Node
shift k node = record { symbol = node.symbol; children = map (λ child. k + child) node.children }

-- both lists of nodes in one, the children of the second moved behind the first
abbrev pub beside : List Node → List Node → List Node
beside xs ys = xs ++ map (shift (length xs)) ys

-- the nodes of all graphs, one graph behind the other
abbrev pub merged : List Graph → List Node
merged [] = []
merged (t ∷ ts) = beside t.nodes (merged ts)

-- the place of the i-th graph's root among them
abbrev pub merged_root : List Graph → ℕ → ℕ
merged_root [] i = 0
merged_root (t ∷ ts) zero = t.root
merged_root (t ∷ ts) (suc i) = length t.nodes + merged_root ts i
