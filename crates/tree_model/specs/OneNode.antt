-- Trees of one node: the finite tree `$k`, and the infinite tree `x = $k(x)`.
use Rattle.std.specs.Prelude.{ℕ, zero, suc, ◌<◌, List, [], ◌∷◌, length, All}
use Prim.Native.Nat.{zero-le, suc-le-suc}
use Rattle.tree_model.specs.declared.tree.Node.{Node}
use Rattle.tree_model.specs.declared.tree.Symbol.TheVariants.{Further}
use Rattle.tree_model.specs.Graphs.{ChildrenBelow}
use Rattle.tree_model.specs.Signatures.{Signature, TreeOver, IsRoot}

-- everything holds of each item of the empty list
pub of_none : {A : Type 0} (P : A → Type 0) → All P []
of_none P i d w = elim w [ ]

-- what holds of x holds of each item of the list of x alone
pub of_one : {A : Type 0} (P : A → Type 0) (x : A) → P x → All P (x ∷ [])
of_one P x p zero d w = p
of_one P x p (suc i) d (suc-le-suc w) = elim w [ ]

-- the node of the further symbol with these children
abbrev pub further_node : ℕ → List ℕ → Node
further_node k children = record { symbol = Further k; children = children }

-- the tree of this one node, which is over each signature
abbrev pub one_node : (σ : Signature) (k : ℕ) (children : List ℕ) → All (λ child. child < 1) children → TreeOver σ
one_node σ k children below = record {
  graph = record { nodes = further_node k children ∷ []; root = 0 };
  in_range = record { children = of_one (ChildrenBelow 1) (further_node k children) below; root_within = suc-le-suc zero-le };
  fits = of_one (λ node. IsRoot σ node.symbol (length node.children)) (further_node k children) tt;
}

-- the tree `$k`
abbrev pub constant : (σ : Signature) → ℕ → TreeOver σ
constant σ k = one_node σ k [] (of_none (λ child. child < 1))

-- the tree `x = $k(x)`, which is its own child
abbrev pub loop : (σ : Signature) → ℕ → TreeOver σ
loop σ k = one_node σ k (0 ∷ []) (of_one (λ child. child < 1) 0 (suc-le-suc zero-le))
