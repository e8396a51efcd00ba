-- What the last steps make of a grouped cube.
use Rattle.std.specs.Prelude.{ℕ, ◌+◌, List, [], ◌↔◌}
use Rattle.tree_model.specs.Signatures.{Signature}
use Rattle.tree_model.specs.Valuations.{Valuation}
use Rattle.flat_form.specs.declared.cube.Part.{Part}
use Rattle.flat_form.specs.declared.cube.Cube.{Cube}
use Rattle.flat_form.specs.Fitting.{CubeFits}
use Rattle.flat_form.specs.Meanings.{AllFail, CubeHolds}
use Rattle.flat_form.specs.Numbering.{IsWellNumbered}
use Rattle.flat_form.specs.Steps.{IsGrouped, Settles, IsCleared, Finishes}

-- parts fail where they do with their inner variables numbered and each of them once
abbrev pub FinishedFails : Type 0
FinishedFails = (σ : Signature) (m : ℕ) (old new : List Part) (d : Valuation σ) → Finishes m [] old new → AllFail m d old ↔ AllFail m d new

-- a cleared cube holds where the grouped cube does with its settled parts
abbrev pub ClearedMeans : Type 0
ClearedMeans =
    (σ : Signature) (raw mid cube : Cube) (idle : List ℕ) (first : List Part) (e : Valuation σ) → IsWellNumbered raw → CubeFits σ raw
    → IsGrouped raw mid idle → Settles (mid.free + mid.outer) mid.basic mid.parts first → IsCleared mid idle first cube
    → CubeHolds e (record { free = mid.free; outer = mid.outer; basic = mid.basic; parts = first }) ↔ CubeHolds e cube
