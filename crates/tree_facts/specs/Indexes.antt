-- The indexes of further symbols.
use Rattle.std.specs.Prelude.{ℕ, suc, ◌≡◌, List, [], ◌∷◌, max, Some}
use Rattle.classical.specs.Classical.{Exists}
use Rattle.tree_model.specs.declared.tree.Node.{Node}
use Rattle.tree_model.specs.declared.tree.Symbol.{Symbol}
use Rattle.tree_model.specs.declared.tree.Symbol.TheVariants.{Named, Further}
use Rattle.tree_model.specs.Graphs.{Graph}
use Rattle.tree_model.specs.Trees.{at}

-- the tree reads the further symbol with index k, with some number of arguments
abbrev pub ReadsIndex : Graph → ℕ → Type 0
ReadsIndex t k = Exists (λ (path : List ℕ). Exists (λ (n : ℕ). at t path ≡ Some (Further k, n)))

-- a number above the symbol's index
abbrev pub above_index : Symbol → ℕ
above_index (Named place) = 0
above_index (Further k) = suc k

-- a number above all indexes of the nodes
abbrev pub above_indexes : List Node → ℕ
above_indexes [] = 0
above_indexes (node ∷ nodes) = max (above_index node.symbol) (above_indexes nodes)

-- a number above all indexes of the trees
abbrev pub above_trees : List Graph → ℕ
above_trees [] = 0
above_trees (t ∷ ts) = max (above_indexes t.nodes) (above_trees ts)
