-- Laws of indexes of further symbols: there are always more of them, and two trees of each.
use Rattle.std.specs.Prelude.{ℕ, ◌≡◌, ◌≤◌, List, [], ◌∷◌, Contains}
use Rattle.tree_model.specs.declared.tree.Symbol.TheVariants.{Further}
use Rattle.tree_model.specs.Graphs.{Graph}
use Rattle.tree_model.specs.OneNode.{constant, loop}
use Rattle.tree_model.specs.Signatures.{Signature, Alike}
use Rattle.tree_model.specs.Trees.{IsFinite}
use Rattle.tree_model.specs.Valuations.{Valuation}
use Rattle.tree_facts.specs.Equations.{Equation, IsApplied, Solves, SystemFits, IsParameter, HasDistinctLefts}
use Rattle.tree_facts.specs.Indexes.{ReadsIndex, above_indexes, above_trees}

-- a tree reads no index at or above the bound of its nodes
abbrev pub ReadIndexIsBelow : Type 0
ReadIndexIsBelow = (t : Graph) (k : ℕ) → above_indexes t.nodes ≤ k → ¬ ReadsIndex t k

-- an index at or above the bound of finitely many trees is read by none of them
abbrev pub UnusedIndex : Type 0
UnusedIndex = (ts : List Graph) (t : Graph) (k : ℕ) → Contains ts t → above_trees ts ≤ k → ¬ ReadsIndex t k

-- `$k` has the root that its name says, and no children
abbrev pub ConstantIsApplied : Type 0
ConstantIsApplied = (σ : Signature) (e : Valuation σ) (v k : ℕ) → Alike (e v) (constant σ k) → IsApplied e v (Further k) []

-- `$k` is finite
abbrev pub ConstantIsFinite : Type 0
ConstantIsFinite = (σ : Signature) (k : ℕ) → IsFinite (constant σ k).graph

-- the tree `x = $k(x)` has this root, and is its own child
abbrev pub LoopIsApplied : Type 0
LoopIsApplied = (σ : Signature) (e : Valuation σ) (v k : ℕ) → Alike (e v) (loop σ k) → IsApplied e v (Further k) (v ∷ [])

-- the tree `x = $k(x)` is not finite
abbrev pub LoopIsInfinite : Type 0
LoopIsInfinite = (σ : Signature) (k : ℕ) → ¬ IsFinite (loop σ k).graph

-- different indexes give different trees
abbrev pub ConstantsDiffer : Type 0
ConstantsDiffer = (σ : Signature) (j k : ℕ) → Alike (constant σ j) (constant σ k) → j ≡ k

-- a system with distinct left sides has a solution under which all parameters are `$0`, so it has one
abbrev pub HasSolutionOfConstants : Type 0
HasSolutionOfConstants =
    (σ : Signature) (system : List Equation) → HasDistinctLefts system → SystemFits σ system
    → (d : Valuation σ) × Solves d system × ((v : ℕ) → IsParameter system v → Alike (d v) (constant σ 0))
