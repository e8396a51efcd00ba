-- Walks: along the equations of a system, and from node to child in a list of nodes.
use Rattle.std.specs.Prelude.{◌≡◌, ℕ, ◌<◌, List, [], ◌∷◌, length, slice_index, Contains, Some}
use Rattle.tree_model.specs.declared.tree.Node.{Node}
use Rattle.tree_model.specs.declared.tree.Symbol.{Symbol}
use Rattle.tree_model.specs.Graphs.{Graph}
use Rattle.tree_model.specs.Trees.{at, child_of}
use Rattle.tree_facts.specs.Equations.{Equation, equals_variable, equals_term}

-- u reaches w: a walk goes from a variable to what it equals, and from a term to its arguments
pub data Reaches (system : List Equation) : ℕ → ℕ → Type 0 where
  here : (u : ℕ) → Reaches system u u
  by_equal : (u r w : ℕ) → Contains system (equals_variable u r) → Reaches system r w → Reaches system u w
  by_argument : (u w : ℕ) (symbol : Symbol) (arguments : List ℕ) (i : ℕ) → Contains system (equals_term u symbol arguments)
      → i < length arguments → Reaches system (slice_index arguments i) w → Reaches system u w

-- w stands below u: u reaches a term with an argument that reaches w
pub record IsBelow (system : List Equation) (u w : ℕ) : Type 0 where
  pub term : ℕ
  pub symbol : Symbol
  pub arguments : List ℕ
  pub number : ℕ
  pub before : Reaches system u term
  pub stands : Contains system (equals_term term symbol arguments)
  pub within : number < length arguments
  pub behind : Reaches system (slice_index arguments number) w

-- a walk from a node of the list to a child of it, to a child of this one, and so on, of one step or more
pub data Descends (nodes : List Node) : ℕ → ℕ → Type 0 where
  to_child : (place i child : ℕ) → child_of nodes place i ≡ Some child → Descends nodes place child
  through_child : (place i child w : ℕ) → child_of nodes place i ≡ Some child → Descends nodes child w → Descends nodes place w

-- all walks from the node end: it is a node all of whose children are grounded
pub data IsGrounded (nodes : List Node) : ℕ → Type 0 where
  grounded : (place : ℕ) → ((i child : ℕ) → child_of nodes place i ≡ Some child → IsGrounded nodes child) → IsGrounded nodes place

-- the tree of v is a node, whose children are trees of good numbers that v leads to
pub record Branches (tree : ℕ → Graph) (Good : ℕ → Type 0) (Leads : ℕ → ℕ → Type 0) (v : ℕ) : Type 0 where
  pub symbol : Symbol
  pub children : List ℕ
  pub root : at (tree v) [] ≡ Some (symbol, length children)
  pub child : (i : ℕ) → i < length children → (path : List ℕ) → at (tree v) (i ∷ path) ≡ at (tree (slice_index children i)) path
  pub good : (i : ℕ) → i < length children → Good (slice_index children i)
  pub leads : (i : ℕ) → i < length children → Leads v (slice_index children i)
