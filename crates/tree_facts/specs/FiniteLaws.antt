-- Laws of finite trees, and of the places of a list of nodes at which a finite tree stands.
use Rattle.std.specs.Prelude.{◌≡◌, ℕ, ◌<◌, ◌≤◌, List, [], ◌∷◌, ◌++◌, length, slice_index, Contains, Some, None, IsSome, ◌↔◌, ◌⊎◌}
use Rattle.tree_model.specs.declared.tree.Node.{Node}
use Rattle.tree_model.specs.declared.tree.Symbol.{Symbol}
use Rattle.tree_model.specs.Graphs.{Graph, IsInRange}
use Rattle.tree_model.specs.Signatures.{Signature}
use Rattle.tree_model.specs.Trees.{at, read, child_of, ReadsFinite, IsFinite}
use Rattle.tree_model.specs.Valuations.{Valuation}
use Rattle.tree_facts.specs.Equations.{IsApplied}
use Rattle.tree_facts.specs.Walks.{Descends, IsGrounded}

-- a graph that is in range reads a symbol at its root
abbrev pub RootIsRead : Type 0
RootIsRead = (t : Graph) → IsInRange t.nodes t.root → IsSome (at t [])

-- past the last child nothing is read
abbrev pub NothingPastTheChildren : Type 0
NothingPastTheChildren = (t : Graph) (s : Symbol) (n i : ℕ) (path : List ℕ) → at t [] ≡ Some (s, n) → n ≤ i → at t (i ∷ path) ≡ None

-- u stands in t, at the end of the path
abbrev pub IsSubtree : Graph → List ℕ → Graph → Type 0
IsSubtree t path u = (more : List ℕ) → at t (path ++ more) ≡ at u more

-- what stands in a finite tree is finite
abbrev pub SubtreeIsFinite : Type 0
SubtreeIsFinite = (t u : Graph) (path : List ℕ) → IsSubtree t path u → IsFinite t → IsFinite u

-- a tree that stands in itself below its root is not finite
abbrev pub OwnSubtreeIsInfinite : Type 0
OwnSubtreeIsInfinite = (t : Graph) (path : List ℕ) → IsInRange t.nodes t.root → 0 < length path → IsSubtree t path t → ¬ IsFinite t

-- a term's value is finite exactly where the values of all its arguments are
abbrev pub TermIsFiniteWhereArgumentsAre : Type 0
TermIsFiniteWhereArgumentsAre =
    (σ : Signature) (e : Valuation σ) (u : ℕ) (s : Symbol) (xs : List ℕ) → IsApplied e u s xs
    → IsFinite (e u).graph ↔ ((i : ℕ) → i < length xs → IsFinite (e (slice_index xs i)).graph)

-- a finite tree stands at a node exactly where finite trees stand at all its children
abbrev pub NodeIsFiniteWhereChildrenAre : Type 0
NodeIsFiniteWhereChildrenAre =
    (nodes : List Node) (place : ℕ) → place < length nodes
    → ReadsFinite (read nodes place) ↔ ((i child : ℕ) → child_of nodes place i ≡ Some child → ReadsFinite (read nodes child))

-- where each place of a set has a child in it, no finite tree stands at a place of the set
abbrev pub NoneIsFiniteWhereEachGoesOn : Type 0
NoneIsFiniteWhereEachGoesOn =
    (nodes : List Node) (some : List ℕ)
    → ((place : ℕ) → Contains some place → (i : ℕ) × (child : ℕ) × (child_of nodes place i ≡ Some child) × Contains some child)
    → (place : ℕ) → Contains some place → ¬ ReadsFinite (read nodes place)

-- a finite tree stands at the grounded nodes and at no others
abbrev pub FiniteIsGrounded : Type 0
FiniteIsGrounded =
    (nodes : List Node) (place : ℕ) → IsInRange nodes place → ReadsFinite (read nodes place) ↔ (¬ ¬ IsGrounded nodes place)

-- a graph is a finite tree exactly where no walk from its root comes round
abbrev pub FiniteWhereNoWalkComesRound : Type 0
FiniteWhereNoWalkComesRound =
    (nodes : List Node) (root : ℕ) → IsInRange nodes root
    → ReadsFinite (read nodes root) ↔ ((place : ℕ) → (root ≡ place) ⊎ Descends nodes root place → ¬ Descends nodes place place)
