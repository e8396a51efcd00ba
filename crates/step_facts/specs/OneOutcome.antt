-- The steps come to one outcome only.
use Rattle.std.specs.Prelude.{◌≡◌, ℕ, List, Option}
use Rattle.tree_model.specs.Signatures.{Signature}
use Rattle.flat_form.specs.declared.cube.Part.{Part}
use Rattle.flat_form.specs.declared.cube.Cube.{Cube}
use Rattle.flat_form.specs.Fitting.{CubeFits}
use Rattle.flat_form.specs.Steps.{NumbersInner, IsGrouped, IsCleared, Outcome}

-- inner variables can be numbered by first occurrence in one way only
abbrev pub InnerNumbersAreOne : Type 0
InnerNumbersAreOne = (m : ℕ) (part one other : Part) → NumbersInner m part one → NumbersInner m part other → one ≡ other

-- and so can outer variables, whatever the parts
abbrev pub OuterOrderIsOne : Type 0
OuterOrderIsOne =
    (mid : Cube) (idle : List ℕ) (first second : List Part) (one other : Cube) (a : IsCleared mid idle first one) (b : IsCleared mid idle second other)
    → a.order ≡ b.order

-- there is one way to solve a raw cube's basic and to group its variables
abbrev pub GroupedIsOne : Type 0
GroupedIsOne =
    (raw one other : Cube) (idle also_idle : List ℕ) → IsGrouped raw one idle → IsGrouped raw other also_idle → (one ≡ other) × (idle ≡ also_idle)

-- the steps on a raw cube whose symbols fit a signature come to one outcome only
abbrev pub OutcomeIsOne : Type 0
OutcomeIsOne = (σ : Signature) (raw : Cube) (one other : Option Cube) → CubeFits σ raw → Outcome raw one → Outcome raw other → one ≡ other
