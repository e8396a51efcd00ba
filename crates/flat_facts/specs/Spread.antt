-- Walks along the equations of a solved conjunction: where they come round, and at which variables they end.
use Rattle.std.specs.Prelude.{ℕ, ◌≡◌, ◌<◌, List, [], ◌∷◌, length, slice_index, Contains, ◌⊎◌, ◌↔◌}
use Rattle.lists.specs.Distinct.{IsDistinct}
use Rattle.tree_model.specs.declared.tree.Symbol.{Symbol}
use Rattle.tree_model.specs.Signatures.{Signature}
use Rattle.tree_model.specs.Trees.{IsFinite}
use Rattle.tree_model.specs.Valuations.{Valuation}
use Rattle.flat_form.specs.declared.atom.Flat.{Flat}
use Rattle.flat_form.specs.declared.atom.Flat.TheVariants.{VarVar, VarTerm}
use Rattle.flat_form.specs.Meanings.{BasicHolds}
use Rattle.flat_form.specs.Solved.{IsOpen, IsSolved}

module _ (basic : List Flat) where
  -- w is what v equals; where no equation says so, it is v itself
  abbrev pub IsTarget : ℕ → ℕ → Type 0
  IsTarget v w = Contains basic (VarVar v w) ⊎ ((v ≡ w) × ((r : ℕ) → ¬ Contains basic (VarVar v r)))

  -- the walk from u along the path of argument numbers leads to w, and meets these variables before it
  pub data Leads : ℕ → List ℕ → List ℕ → ℕ → Type 0 where
    stays : (u : ℕ) → Leads u [] [] u
    goes : (u w : ℕ) (symbol : Symbol) (xs : List ℕ) (i : ℕ) (path before : List ℕ) → Contains basic (VarTerm u symbol xs) → i < length xs
        → Leads (slice_index xs i) path before w → Leads u (i ∷ path) (u ∷ before) w

-- the walk from v along the path ends where it first meets a variable again
pub record ComesRound (basic : List Flat) (v : ℕ) (path : List ℕ) : Type 0 where
  pub start : ℕ
  pub before : List ℕ
  pub last : ℕ
  pub target : IsTarget basic v start
  pub walk : Leads basic start path before last
  pub again : Contains before last
  pub distinct : IsDistinct before

-- no path stands behind another in the dictionary
abbrev pub IsAtMost : List ℕ → List ℕ → Type 0
IsAtMost [] q = Unit {0}
IsAtMost (i ∷ p) [] = ⊥
IsAtMost (i ∷ p) (j ∷ q) = (i < j) ⊎ ((i ≡ j) × IsAtMost p q)

-- the least path of a walk from v that comes round
pub record IsLeastRound (basic : List Flat) (v : ℕ) (path : List ℕ) : Type 0 where
  pub comes_round : ComesRound basic v path
  pub least : (other : List ℕ) → ComesRound basic v other → IsAtMost path other

-- a walk from v ends at u, which has no term
pub record IsLeaf (basic : List Flat) (v u : ℕ) : Type 0 where
  pub start : ℕ
  pub path : List ℕ
  pub before : List ℕ
  pub target : IsTarget basic v start
  pub walk : Leads basic start path before u
  pub bare : IsOpen basic u

-- a variable from which a walk comes round is infinite in each solution
abbrev pub RoundIsInfinite : Type 0
RoundIsInfinite =
    (σ : Signature) (basic : List Flat) (e : Valuation σ) (v : ℕ) (path : List ℕ) → BasicHolds e basic → ComesRound basic v path → ¬ IsFinite (e v).graph

-- one from which none comes round is finite exactly where the leaves are at which the walks end
abbrev pub FiniteWhereLeavesAre : Type 0
FiniteWhereLeavesAre =
    (σ : Signature) (basic : List Flat) (e : Valuation σ) (v : ℕ) → IsSolved basic → BasicHolds e basic
    → ((path : List ℕ) → ¬ ComesRound basic v path)
    → IsFinite (e v).graph ↔ ((u : ℕ) → IsLeaf basic v u → IsFinite (e u).graph)

-- no two paths are the least
abbrev pub LeastRoundIsOne : Type 0
LeastRoundIsOne = (basic : List Flat) (v : ℕ) (one other : List ℕ) → IsLeastRound basic v one → IsLeastRound basic v other → one ≡ other
