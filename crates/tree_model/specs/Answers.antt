-- What the calls of `Tree` and `Assignment` answer.
use Rattle.std.specs.Prelude.{◌≡◌, ℕ, ◌<◌, List, length, take, All, slice_index_or, Option, option_map}
use Rattle.std.specs.Borrow.{Bor}
use Rattle.tree_model.specs.declared.tree.Node.{Node}
use Rattle.tree_model.specs.declared.tree.Symbol.{Symbol}
use Rattle.tree_model.specs.declared.tree.TreeError.{TreeError}
use Rattle.tree_model.specs.declared.tree.TreeError.TheVariants.{Child, Root}
use Rattle.tree_model.specs.Graphs.{Graph, Forest, ChildrenBelow, IsInRange, AreInRange}

-- node i is the first with a child out of range
pub record IsFirstStray (nodes : List Node) (i : ℕ) : Type 0 where
  pub before : All (ChildrenBelow (length nodes)) (take i nodes)
  pub within : i < length nodes
  pub stray : (d : Node) → ¬ ChildrenBelow (length nodes) (slice_index_or nodes i d)

-- the nodes and the root are refused for this fault
abbrev pub IsRefused : List Node → ℕ → TreeError → Type 0
IsRefused nodes root (Child i) = IsFirstStray nodes i
IsRefused nodes root Root = All (ChildrenBelow (length nodes)) nodes × ¬ (root < length nodes)

-- the tree has these nodes and this root, which are in range
pub record IsKept (nodes : List Node) (root : ℕ) (tree : Graph) : Type 0 where
  pub nodes_kept : tree.nodes ≡ nodes
  pub root_kept : tree.root ≡ root
  pub in_range : IsInRange nodes root

-- the nodes and the roots are refused for this fault
abbrev pub AreRefused : List Node → List ℕ → TreeError → Type 0
AreRefused nodes roots (Child i) = IsFirstStray nodes i
AreRefused nodes roots Root = All (ChildrenBelow (length nodes)) nodes × ¬ All (λ root. root < length nodes) roots

-- the assignment has these nodes and these roots, which are in range
pub record AreKept (nodes : List Node) (roots : List ℕ) (assignment : Forest) : Type 0 where
  pub nodes_kept : assignment.nodes ≡ nodes
  pub roots_kept : assignment.roots ≡ roots
  pub in_range : AreInRange nodes roots

-- what a call that lends the symbol answers
abbrev pub symbol_read : Option (Bor Symbol × ℕ) → Option (Symbol × ℕ)
symbol_read r = option_map {T = Bor Symbol × ℕ} {U = Symbol × ℕ} (λ x. (x.0.now, x.1)) r
