-- Values that an assignment gives, and indexes that a cube uses.
use Rattle.std.specs.Prelude.{ℕ, ◌<◌, List, length, Contains}
use Rattle.tree_model.specs.declared.tree.Symbol.TheVariants.{Further}
use Rattle.tree_model.specs.Graphs.{Forest, tree_of}
use Rattle.tree_model.specs.Signatures.{Signature}
use Rattle.tree_model.specs.Trees.{Same}
use Rattle.tree_model.specs.Valuations.{Valuation}
use Rattle.flat_form.specs.declared.cube.Cube.{Cube}
use Rattle.flat_form.specs.Symbols.{cube_symbols}

-- the value of each variable that has a root in the assignment is the tree of that root
abbrev pub HasTreesOf : {σ : Signature} → Forest → Valuation σ → Type 0
HasTreesOf a e = (v : ℕ) → v < length a.roots → Same (e v).graph (tree_of a v)

-- the index of each further symbol of the cube is used
abbrev pub IndexesAreUsed : Cube → List ℕ → Type 0
IndexesAreUsed c used = (k n : ℕ) → Contains (cube_symbols c) (Further k, n) → Contains used k
