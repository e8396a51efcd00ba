-- Marks on places of a list of nodes.
use Rattle.std.specs.Prelude.{◌≡◌, ℕ, ◌<◌, Bool, true, false, List, length, slice_index, slice_index_or, Some, IsSome}
use Rattle.tree_model.specs.declared.tree.Node.{Node}
use Rattle.tree_model.specs.Trees.{read, child_of}

-- the place has a mark
abbrev pub IsMarked : List Bool → ℕ → Type 0
IsMarked marks place = slice_index_or marks place false ≡ true

-- there is a mark to be set at the place
abbrev pub IsUnmarked : List Bool → ℕ → Type 0
IsUnmarked marks place = slice_index_or marks place true ≡ false

-- some of the places has no mark
abbrev pub HasUnmarked : List Bool → List ℕ → Type 0
HasUnmarked marks places = (i : ℕ) × (i < length places) × IsUnmarked marks (slice_index places i)

-- some number exceeds the length of every path that reads a symbol from a marked place
abbrev pub AreBounded : List Node → List Bool → Type 0
AreBounded nodes marks =
    (bound : ℕ) × ((place : ℕ) → IsMarked marks place → (path : List ℕ) → IsSome (read nodes place path) → length path < bound)

-- each place without a mark has a child without one
abbrev pub IsAtRest : List Node → List Bool → Type 0
IsAtRest nodes marks =
    (place : ℕ) → IsUnmarked marks place → (i child : ℕ) × (child_of nodes place i ≡ Some child) × IsUnmarked marks child
