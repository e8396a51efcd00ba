-- The part of a graph that some of its nodes reach, numbered by breadth.
use Rattle.std.specs.Prelude.{◌≡◌, ℕ, ◌<◌, ◌⊎◌, List, ◌++◌, length, map, flat_map, slice_index, Contains}
use Rattle.tree_model.specs.declared.tree.Node.{Node}
use Rattle.tree_model.specs.Graphs.{Forest}
use Rattle.formula_ast.specs.Occurrences.{first_occurrences}
use Rattle.flat_form.specs.Orders.{place_of}

-- the node of v, where the nodes stand in this order
abbrev pub node_of : (ℕ → Node) → List ℕ → ℕ → Node
node_of label order v = record { symbol = (label v).symbol; children = map (place_of order) (label v).children }

-- The forest has one node for each one that the tops reach. They are numbered as they are first met: first the tops, then
-- the children of each node in turn.
pub record IsByBreadth (label : ℕ → Node) (tops : List ℕ) (a : Forest) : Type 0 where
  pub order : List ℕ
  pub met : order ≡ first_occurrences (tops ++ flat_map (λ v. (label v).children) order)
  -- each is a top, or a child of one before it
  pub before : (i : ℕ) → i < length order
      → Contains tops (slice_index order i) ⊎ ((j : ℕ) × (j < i) × Contains (label (slice_index order j)).children (slice_index order i))
  pub nodes : a.nodes ≡ map (node_of label order) order
  pub roots : a.roots ≡ map (place_of order) tops
