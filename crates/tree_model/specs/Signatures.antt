-- Signatures, and trees over them.
use Rattle.std.specs.Prelude.{◌≡◌, ℕ, List, length, All, slice_get, Option, Some, option_map}
use Rattle.tree_model.specs.declared.kind.Kind.{Kind}
use Rattle.tree_model.specs.declared.kind.Kind.TheVariants as kind
use Rattle.tree_model.specs.declared.tree.Node.{Node}
use Rattle.tree_model.specs.declared.tree.Symbol.{Symbol}
use Rattle.tree_model.specs.declared.tree.Symbol.TheVariants.{Named, Further}
use Rattle.tree_model.specs.Graphs.{Graph, IsInRange}
use Rattle.tree_model.specs.Trees.{Same}

-- a declared name, as its bytes, with its kind and its number of arguments
pub record Entry : Type 0 where
  pub name : List ℕ
  pub kind : Kind
  pub arity : ℕ

-- declared names, in order of declaration
abbrev pub Signature : Type 0
Signature = List Entry

-- the kind and arity that are declared at a place
abbrev pub declared_at : Signature → ℕ → Option (Kind × ℕ)
declared_at σ place = option_map {T = Entry} {U = Kind × ℕ} (λ entry. (entry.kind, entry.arity)) (slice_get σ place)

-- The symbol with n arguments is a root symbol over the signature: one that is declared with this arity, or a
-- further symbol, of which there is one for each index and each number of arguments.
abbrev pub IsRoot : Signature → Symbol → ℕ → Type 0
IsRoot σ (Named place) n = declared_at σ place ≡ Some (kind.Symbol, n)
IsRoot σ (Further index) n = Unit {0}

-- each node has a root symbol over the signature
abbrev pub Fits : Signature → List Node → Type 0
Fits σ nodes = All (λ node. IsRoot σ node.symbol (length node.children)) nodes

-- a rational tree over a signature
pub record TreeOver (σ : Signature) : Type 0 where
  pub graph : Graph
  pub in_range : IsInRange graph.nodes graph.root
  pub fits : Fits σ graph.nodes

-- both are one tree
abbrev pub Alike : {σ : Signature} → TreeOver σ → TreeOver σ → Type 0
Alike t u = Same t.graph u.graph
