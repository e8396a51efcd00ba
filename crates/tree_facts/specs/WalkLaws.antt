-- Laws of walks: which trees the values of a system's variables are, finite or not, is seen from walks along equations.
use Rattle.std.specs.Prelude.{ℕ, ◌<◌, List, length, ◌↔◌}
use Rattle.classical.specs.Classical.{Either}
use Rattle.tree_model.specs.Graphs.{Graph}
use Rattle.tree_model.specs.Signatures.{Signature}
use Rattle.tree_model.specs.Trees.{IsFinite}
use Rattle.tree_model.specs.Valuations.{Valuation}
use Rattle.tree_facts.specs.Equations.{Equation, Solves, IsParameter, HasDistinctLefts}
use Rattle.tree_facts.specs.FiniteLaws.{IsSubtree}
use Rattle.tree_facts.specs.Walks.{Reaches, IsBelow, Branches}

-- under a solution, what u reaches stands in u's value
abbrev pub ReachedStandsInside : Type 0
ReachedStandsInside =
    (σ : Signature) (system : List Equation) (e : Valuation σ) (u w : ℕ) → Solves e system → Reaches system u w
    → (path : List ℕ) × IsSubtree (e u).graph path (e w).graph

-- under a solution, what is below u stands in u's value, at the end of a path that is not empty
abbrev pub BelowStandsInside : Type 0
BelowStandsInside =
    (σ : Signature) (system : List Equation) (e : Valuation σ) (u w : ℕ) → Solves e system → IsBelow system u w
    → (path : List ℕ) × (0 < length path) × IsSubtree (e u).graph path (e w).graph

-- under a solution, a variable that is below itself is not finite
abbrev pub RoundIsInfinite : Type 0
RoundIsInfinite =
    (σ : Signature) (system : List Equation) (e : Valuation σ) (v : ℕ) → Solves e system → IsBelow system v v → ¬ IsFinite (e v).graph

-- under a solution of a system with distinct left sides, a variable is finite exactly where all parameters that it
-- reaches are finite and it reaches no variable that is below itself
abbrev pub FiniteWhereWalksEnd : Type 0
FiniteWhereWalksEnd =
    (σ : Signature) (system : List Equation) (e : Valuation σ) (v : ℕ) → HasDistinctLefts system → Solves e system
    → IsFinite (e v).graph
    ↔ (((w : ℕ) → Reaches system v w → IsParameter system w → IsFinite (e w).graph) × ((w : ℕ) → Reaches system v w → ¬ IsBelow system w w))

-- Let each good number lead to no walk that comes back to it, and let its tree be finite, or a node over trees of good
-- numbers that it leads to. Where there are finitely many good numbers, their trees are finite.
abbrev pub FiniteWhereNoneComesRound : (ℕ → Type 0) → (ℕ → ℕ → Type 0) → Type 0
FiniteWhereNoneComesRound Good Leads =
    (tree : ℕ → Graph) (n : ℕ)
    → ((u v w : ℕ) → Leads u v → Leads v w → Leads u w)
    → ((v : ℕ) → Good v → v < n)
    → ((v : ℕ) → Good v → ¬ Leads v v)
    → ((v : ℕ) → Good v → Either (IsFinite (tree v)) (Branches tree Good Leads v))
    → (v : ℕ) → Good v → IsFinite (tree v)
