-- Laws of lists of cubes: what the lists mean that conjunction, disjunction, negation and quantifiers come to.
use Rattle.std.specs.Prelude.{◌≡◌, ℕ, ◌+◌, ◌-◌, ◌≤◌, List, [], ◌∷◌, All, ◌↔◌}
use Rattle.classical.specs.Classical.{Either, Exists}
use Rattle.lists.specs.Distinct.{IsDistinct}
use Rattle.tree_model.specs.Signatures.{Signature}
use Rattle.tree_model.specs.Valuations.{Valuation}
use Rattle.flat_form.specs.declared.cube.Cube.{Cube}
use Rattle.flat_form.specs.Fitting.{NormFits}
use Rattle.flat_form.specs.Meanings.{Extends, CubeHolds, SomeHolds, NormHolds}
use Rattle.flat_form.specs.Normals.{Norm}
use Rattle.flat_form.specs.Numbering.{CubesOver, NormOver}
use Rattle.flat_form.specs.Reduced.{IsReduced}
use Rattle.flat_form.specs.Symbols.{CubesFit}
use Rattle.step_facts.specs.Lists.{TakesSteps, IsAnd, IsOr, IsNot, IsExists, IsPlain, IsJoined, IsClosed}

-- well numbered cubes over n free variables that fit a signature
pub record AreRaw (σ : Signature) (n : ℕ) (cubes : List Cube) : Type 0 where
  pub over : CubesOver n cubes
  pub fit : CubesFit σ cubes

-- such cubes that are besides reduced and distinct
pub record AreReduced (σ : Signature) (n : ℕ) (cubes : List Cube) : Type 0 where
  pub over : CubesOver n cubes
  pub fit : CubesFit σ cubes
  pub reduced : All IsReduced cubes
  pub distinct : IsDistinct cubes

-- several lists of such cubes
abbrev pub AreRawLists : Signature → ℕ → List (List Cube) → Type 0
AreRawLists σ n lists = All (AreRaw σ n) lists

-- of each list a cube holds
abbrev pub EachHolds : {σ : Signature} → Valuation σ → List (List Cube) → Type 0
EachHolds e [] = Unit {0}
EachHolds e (list ∷ lists) = SomeHolds e list × EachHolds e lists

-- the steps taken on each raw cube
pub record StepsMean : Type 0 where
  pub means : (σ : Signature) (n : ℕ) (raws out : List Cube) (e : Valuation σ) → AreRaw σ n raws → TakesSteps [] raws out → SomeHolds e out ↔ SomeHolds e raws
  pub reduced : (σ : Signature) (n : ℕ) (raws out : List Cube) → AreRaw σ n raws → TakesSteps [] raws out → AreReduced σ n out

-- conjunction
pub record AndMeans : Type 0 where
  pub means : (σ : Signature) (n : ℕ) (left right out : List Cube) (e : Valuation σ) → AreRaw σ n left → AreRaw σ n right → IsAnd left right out
      → SomeHolds e out ↔ (SomeHolds e left × SomeHolds e right)
  pub reduced : (σ : Signature) (n : ℕ) (left right out : List Cube) → AreRaw σ n left → AreRaw σ n right → IsAnd left right out → AreReduced σ n out

-- disjunction
pub record OrMeans : Type 0 where
  pub means : (σ : Signature) (left right out : List Cube) (e : Valuation σ) → IsOr left right out → SomeHolds e out ↔ Either (SomeHolds e left) (SomeHolds e right)
  pub reduced : (σ : Signature) (n : ℕ) (left right out : List Cube) → AreReduced σ n left → AreReduced σ n right → IsOr left right out → AreReduced σ n out

-- quantifiers
pub record ExistsMeans : Type 0 where
  pub means : (σ : Signature) (n quantified : ℕ) (cubes out : List Cube) (e : Valuation σ) → quantified ≤ n → AreRaw σ n cubes → IsExists quantified cubes out
      → SomeHolds e out ↔ Exists (λ (d : Valuation σ). Extends (n - quantified) e d × SomeHolds d cubes)
  pub reduced : (σ : Signature) (n quantified : ℕ) (cubes out : List Cube) → quantified ≤ n → AreRaw σ n cubes → IsExists quantified cubes out
      → AreReduced σ (n - quantified) out

-- negation
pub record NotMeans : Type 0 where
  pub means : (σ : Signature) (n : ℕ) (cubes out : List Cube) (e : Valuation σ) → AreRaw σ n cubes → All IsReduced cubes → IsNot n cubes out
      → SomeHolds e out ↔ (¬ SomeHolds e cubes)
  pub reduced : (σ : Signature) (n : ℕ) (cubes out : List Cube) → AreRaw σ n cubes → IsNot n cubes out → AreReduced σ n out

-- several lists
pub record JoinedListsMean : Type 0 where
  pub means : (σ : Signature) (n : ℕ) (first : List Cube) (lists : List (List Cube)) (out : List Cube) (e : Valuation σ) → AreRaw σ n first → AreRawLists σ n lists
      → IsJoined first lists out → SomeHolds e out ↔ (SomeHolds e first × EachHolds e lists)
  pub reduced : (σ : Signature) (n : ℕ) (first : List Cube) (lists : List (List Cube)) (out : List Cube) → AreReduced σ n first → AreRawLists σ n lists
      → IsJoined first lists out → AreReduced σ n out

-- no values of the bound variables make a cube hold
pub record ClosedMeans : Type 0 where
  pub means : (σ : Signature) (n bound : ℕ) (cubes out : List Cube) (e : Valuation σ) → AreRaw σ (n + bound) cubes → IsClosed n bound cubes out
      → SomeHolds e out ↔ ((d : Valuation σ) → Extends n e d → ¬ SomeHolds d cubes)
  pub reduced : (σ : Signature) (n bound : ℕ) (cubes out : List Cube) → AreRaw σ (n + bound) cubes → IsClosed n bound cubes out → AreReduced σ n out

-- the list that a negated conjunction comes to
pub record PlainMeans : Type 0 where
  pub means : (σ : Signature) (n : ℕ) (x : Norm) (out : List Cube) (e : Valuation σ) → NormOver n x → NormFits σ x → IsPlain n x out → SomeHolds e out ↔ NormHolds n e x
  pub reduced : (σ : Signature) (n : ℕ) (x : Norm) (out : List Cube) → NormOver n x → NormFits σ x → IsPlain n x out → AreReduced σ n out

-- without free variables a cube holds everywhere or nowhere
abbrev pub ClosedIsFixed : Type 0
ClosedIsFixed = (σ : Signature) (cube : Cube) (d e : Valuation σ) → cube.free ≡ 0 → CubeHolds d cube → CubeHolds e cube
