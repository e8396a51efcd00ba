-- What a graph reads along a path, when two graphs are the same tree, and when a tree is finite.
use Rattle.std.specs.Prelude.{◌≡◌, ℕ, ◌<◌, List, [], ◌∷◌, length, slice_get, Option, IsSome, option_map, option_and_then}
use Rattle.classical.specs.Classical.{Exists}
use Rattle.tree_model.specs.declared.tree.Node.{Node}
use Rattle.tree_model.specs.declared.tree.Symbol.{Symbol}
use Rattle.tree_model.specs.Graphs.{Graph}

-- a node's symbol and number of children, where there is a node at this place
abbrev pub label_at : List Node → ℕ → Option (Symbol × ℕ)
label_at nodes place = option_map {T = Node} {U = Symbol × ℕ} (λ node. (node.symbol, length node.children)) (slice_get nodes place)

-- the place of a node's i-th child, where there are such a node and child
abbrev pub child_of : List Node → ℕ → ℕ → Option ℕ
child_of nodes place i = option_and_then {T = Node} {U = ℕ} (λ node. slice_get node.children i) (slice_get nodes place)

-- what is read from a place along a path of child numbers
abbrev pub read : List Node → ℕ → List ℕ → Option (Symbol × ℕ)
read nodes place [] = label_at nodes place
read nodes place (i ∷ path) = option_and_then {T = ℕ} {U = Symbol × ℕ} (λ child. read nodes child path) (child_of nodes place i)

-- the symbol and the number of children that are reached from the root along a path
abbrev pub at : Graph → List ℕ → Option (Symbol × ℕ)
at tree path = read tree.nodes tree.root path

-- both are one tree: they read alike at every path
abbrev pub Same : Graph → Graph → Type 0
Same t u = (path : List ℕ) → at t path ≡ at u path

-- what is read is a finite tree: some number exceeds the length of every path at which a symbol is read
abbrev pub ReadsFinite : (List ℕ → Option (Symbol × ℕ)) → Type 0
ReadsFinite reading = Exists (λ (bound : ℕ). (path : List ℕ) → IsSome (reading path) → length path < bound)

-- the tree is finite
abbrev pub IsFinite : Graph → Type 0
IsFinite t = ReadsFinite (at t)
