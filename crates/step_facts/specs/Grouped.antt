-- What the first two steps make of a raw cube.
use Rattle.std.specs.Prelude.{◌≡◌, ℕ, ◌+◌, ◌<◌, List, Contains, length, ◌↔◌}
use Rattle.tree_model.specs.Signatures.{Signature}
use Rattle.tree_model.specs.Valuations.{Valuation}
use Rattle.flat_form.specs.declared.atom.Flat.{Flat}
use Rattle.flat_form.specs.declared.atom.Flat.TheVariants.{VarVar, Finite}
use Rattle.flat_form.specs.declared.cube.Cube.{Cube}
use Rattle.flat_form.specs.Fitting.{CubeFits}
use Rattle.flat_form.specs.Numbering.{IsWellNumbered, BasicOver}
use Rattle.flat_form.specs.Parts.{variables_of}
use Rattle.flat_form.specs.Solved.{IsSolved}
use Rattle.flat_form.specs.Steps.{IsGrouped, IsOuter}
use Rattle.flat_form.specs.Meanings.{CubeHolds}
use Rattle.flat_facts.specs.PartLaws.{Determines}

-- The cube that they make is well numbered, its basic is solved, with equations of variables among the free ones, and
-- idle variables are outer ones that stand in finite atoms alone.
pub record IsGroupedCube (mid : Cube) (idle : List ℕ) : Type 0 where
  pub over : IsWellNumbered mid
  pub solved : IsSolved mid.basic
  pub low : (u h : ℕ) → Contains mid.basic (VarVar u h) → (u < mid.free) × (h < mid.free)
  pub outer : (v : ℕ) → Contains idle v → IsOuter mid.free mid.outer v
  pub alone : (v : ℕ) → Contains idle v → (atom : Flat) → Contains mid.basic atom → Contains (variables_of atom) v → atom ≡ Finite v

-- so it is
abbrev pub GroupedIsRight : Type 0
GroupedIsRight = (raw mid : Cube) (idle : List ℕ) → IsWellNumbered raw → IsGrouped raw mid idle → IsGroupedCube mid idle

-- what moves into the parts determines the variables that are not kept
abbrev pub MovedIsDetermined : Type 0
MovedIsDetermined =
    (raw mid : Cube) (idle : List ℕ) → BasicOver (raw.free + raw.outer) raw.basic → (grouped : IsGrouped raw mid idle)
    → Determines (mid.free + mid.outer) (mid.free + mid.outer + length grouped.determined) grouped.moved

-- a grouped cube holds where the raw cube does
abbrev pub GroupedMeans : Type 0
GroupedMeans =
    (σ : Signature) (raw mid : Cube) (idle : List ℕ) (e : Valuation σ) → IsWellNumbered raw → CubeFits σ raw → IsGrouped raw mid idle
    → CubeHolds e raw ↔ CubeHolds e mid
