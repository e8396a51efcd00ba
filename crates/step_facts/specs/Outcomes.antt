-- What the steps come to: it means what the raw cube does, is reduced, and has no other symbols.
use Rattle.std.specs.Prelude.{◌≡◌, ◌+◌, All, Option, Some, MatchOption, ◌↔◌, Contains, None}
use Rattle.lists.specs.Distinct.{IsDistinct}
use Rattle.tree_model.specs.Signatures.{Signature}
use Rattle.tree_model.specs.Valuations.{Valuation}
use Rattle.flat_form.specs.declared.cube.Cube.{Cube}
use Rattle.flat_form.specs.Fitting.{CubeFits}
use Rattle.flat_form.specs.Meanings.{CubeHolds}
use Rattle.flat_form.specs.Numbering.{IsWellNumbered}
use Rattle.flat_form.specs.Reduced.{IsReduced, IsReducedPart}
use Rattle.flat_form.specs.Symbols.{cube_symbols}
use Rattle.flat_form.specs.Steps.{Outcome}
use Rattle.flat_form.specs.Solved.{IsSolved}
use Rattle.flat_form.specs.FirstOccurrence.{IsNumbered}

-- what the steps come to means what the raw cube does
abbrev pub OutcomeMeans : Type 0
OutcomeMeans =
    (σ : Signature) (raw : Cube) (found : Option Cube) (e : Valuation σ) → IsWellNumbered raw → CubeFits σ raw → Outcome raw found
    → MatchOption found (¬ CubeHolds e raw) (λ (cube : Cube). CubeHolds e raw ↔ CubeHolds e cube)

-- the outcome is well numbered, over the same free variables
abbrev pub OutcomeIsOver : Type 0
OutcomeIsOver = (raw cube : Cube) → IsWellNumbered raw → Outcome raw (Some cube) → (cube.free ≡ raw.free) × IsWellNumbered cube

-- its basic is solved
abbrev pub OutcomeIsSolved : Type 0
OutcomeIsSolved = (raw cube : Cube) → IsWellNumbered raw → Outcome raw (Some cube) → IsSolved cube.basic

-- and numbered by first occurrence
abbrev pub OutcomeIsNumbered : Type 0
OutcomeIsNumbered = (raw cube : Cube) → Outcome raw (Some cube) → IsNumbered cube.free (cube.free + cube.outer) cube.basic

-- no part stands twice
abbrev pub OutcomeIsDistinct : Type 0
OutcomeIsDistinct = (raw cube : Cube) → Outcome raw (Some cube) → IsDistinct cube.parts

-- where its symbols fit a signature, its parts are reduced
abbrev pub OutcomePartsAreReduced : Type 0
OutcomePartsAreReduced =
    (σ : Signature) (raw cube : Cube) → IsWellNumbered raw → CubeFits σ raw → Outcome raw (Some cube)
    → All (IsReducedPart (cube.free + cube.outer) cube.basic) cube.parts

-- so it is a reduced cube
abbrev pub OutcomeIsReduced : Type 0
OutcomeIsReduced = (σ : Signature) (raw cube : Cube) → IsWellNumbered raw → CubeFits σ raw → Outcome raw (Some cube) → IsReduced cube

-- the steps come to nothing exactly where the raw cube has no solution
abbrev pub NoneExactly : Type 0
NoneExactly =
    (σ : Signature) (raw : Cube) (found : Option Cube) → IsWellNumbered raw → CubeFits σ raw → Outcome raw found
    → found ≡ None ↔ ((e : Valuation σ) → ¬ CubeHolds e raw)

-- the outcome has no symbol that the raw cube has not
abbrev pub OutcomeSymbols : Type 0
OutcomeSymbols = (raw cube : Cube) → Outcome raw (Some cube) → All (Contains (cube_symbols raw)) (cube_symbols cube)

-- so it fits where the raw cube does
abbrev pub OutcomeFits : Type 0
OutcomeFits = (σ : Signature) (raw cube : Cube) → CubeFits σ raw → Outcome raw (Some cube) → CubeFits σ cube
