-- Laws of the definitions: being one tree is an equivalence that finiteness respects, and each meaning is stable, so
-- that it is the one of classical logic.
use Rattle.std.specs.Prelude.{ℕ, List, Option, ◌≡◌}
use Rattle.classical.specs.Classical.{IsStable}
use Rattle.tree_model.specs.declared.tree.Node.{Node}
use Rattle.tree_model.specs.declared.tree.Symbol.{Symbol}
use Rattle.tree_model.specs.Graphs.{Graph}
use Rattle.tree_model.specs.Signatures.{Signature, IsRoot, Fits}
use Rattle.tree_model.specs.Trees.{Same, IsFinite}

-- each graph is one tree with itself
abbrev pub SameIsReflexive : Type 0
SameIsReflexive = (t : Graph) → Same t t

-- where t is one tree with u, u is one tree with t
abbrev pub SameIsSymmetric : Type 0
SameIsSymmetric = (t u : Graph) → Same t u → Same u t

-- where t is one tree with u, and u with v, t is one tree with v
abbrev pub SameIsTransitive : Type 0
SameIsTransitive = (t u v : Graph) → Same t u → Same u v → Same t v

-- graphs that are one tree are finite together
abbrev pub FiniteRespectsSame : Type 0
FiniteRespectsSame = (t u : Graph) → Same t u → IsFinite t → IsFinite u

-- two readings that are not ruled out to be equal are equal
abbrev pub ReadingIsStable : Type 0
ReadingIsStable = (a b : Option (Symbol × ℕ)) → IsStable (a ≡ b)

-- two graphs that are not ruled out to be one tree are one tree
abbrev pub SameIsStable : Type 0
SameIsStable = (t u : Graph) → IsStable (Same t u)

-- a tree that is not ruled out to be finite is finite
abbrev pub FiniteIsStable : Type 0
FiniteIsStable = (t : Graph) → IsStable (IsFinite t)

-- a symbol that is not ruled out as a root symbol over a signature is one
abbrev pub RootIsStable : Type 0
RootIsStable = (σ : Signature) (symbol : Symbol) (n : ℕ) → IsStable (IsRoot σ symbol n)

-- nodes that are not ruled out to fit a signature fit it
abbrev pub FitsIsStable : Type 0
FitsIsStable = (σ : Signature) (nodes : List Node) → IsStable (Fits σ nodes)
