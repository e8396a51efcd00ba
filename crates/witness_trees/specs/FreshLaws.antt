-- What fresh assignments rest on.
use Rattle.std.specs.Prelude.{◌≡◌, ℕ, ◌+◌, ◌<◌, List, Some, map, slice_get, Contains}
use Rattle.tree_model.specs.declared.tree.Symbol.{Symbol}
use Rattle.tree_model.specs.Graphs.{Forest, AreInRange}
use Rattle.tree_model.specs.Signatures.{Signature, Fits}
use Rattle.tree_model.specs.Valuations.{Valuation}
use Rattle.flat_form.specs.declared.atom.Flat.TheVariants.{VarVar, VarTerm}
use Rattle.flat_form.specs.declared.cube.Cube.{Cube}
use Rattle.flat_form.specs.Fitting.{CubeFits}
use Rattle.flat_form.specs.Meanings.{CubeHolds}
use Rattle.flat_form.specs.Orders.{place_of}
use Rattle.flat_form.specs.Reduced.{IsReduced}
use Rattle.witness_trees.specs.Fresh.{open_variables, index, representative, IsFreshAssignment}
use Rattle.witness_trees.specs.Values.{HasTreesOf, IndexesAreUsed}

-- a cube and the used indexes have one fresh assignment at most
abbrev pub FreshIsOne : Type 0
FreshIsOne = (c : Cube) (used : List ℕ) (a b : Forest) → IsFreshAssignment c used a → IsFreshAssignment c used b → a ≡ b

-- each variable of a reduced cube has a node
abbrev pub EachIsMet : Type 0
EachIsMet =
    (c : Cube) (used : List ℕ) (a : Forest) → IsReduced c → (fresh : IsFreshAssignment c used a) → (v : ℕ) → v < c.free + c.outer
    → Contains fresh.order (representative c.basic v)

-- the open variables take indexes that are not used, and no two take one
pub record IndexesAreFresh : Type 0 where
  pub new : (c : Cube) (used : List ℕ) (v : ℕ) → Contains (open_variables c) v → ¬ Contains used (index c used v)
  pub apart : (c : Cube) (used : List ℕ) (v w : ℕ) → Contains (open_variables c) v → Contains (open_variables c) w → index c used v ≡ index c used w → v ≡ w

-- the place of the node of a variable
abbrev pub node_place : Cube → List ℕ → ℕ → ℕ
node_place c order v = place_of order (representative c.basic v)

-- the nodes are a table of trees over what the cube fits, and meet its equations
pub record FreshIsTable : Type 0 where
  pub in_range : (c : Cube) (used : List ℕ) (a : Forest) → IsFreshAssignment c used a → AreInRange a.nodes a.roots
  pub fits : (σ : Signature) (c : Cube) (used : List ℕ) (a : Forest) → CubeFits σ c → IsFreshAssignment c used a → Fits σ a.nodes
  pub equal : (c : Cube) (used : List ℕ) (a : Forest) → IsReduced c → (fresh : IsFreshAssignment c used a) → (u r : ℕ) → Contains c.basic (VarVar u r)
      → node_place c fresh.order u ≡ node_place c fresh.order r
  pub term : (c : Cube) (used : List ℕ) (a : Forest) → IsReduced c → (fresh : IsFreshAssignment c used a) → (u : ℕ) (symbol : Symbol) (xs : List ℕ)
      → Contains c.basic (VarTerm u symbol xs)
      → slice_get a.nodes (node_place c fresh.order u) ≡ Some (record { symbol = symbol; children = map (node_place c fresh.order) xs })

-- some values are those of the assignment
abbrev pub FreshHasValues : Type 0
FreshHasValues =
    (σ : Signature) (c : Cube) (used : List ℕ) (a : Forest) → CubeFits σ c → IsFreshAssignment c used a → (e : Valuation σ) × HasTreesOf a e

-- and a reduced cube holds under all such values
abbrev pub HoldsUnderFresh : Type 0
HoldsUnderFresh =
    (σ : Signature) (c : Cube) (used : List ℕ) (a : Forest) (e : Valuation σ) → IsReduced c → IndexesAreUsed c used → CubeFits σ c
    → IsFreshAssignment c used a → HasTreesOf a e → CubeHolds e c
