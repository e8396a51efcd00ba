-- What the steps come to is reduced.
use Rattle.std.specs.Prelude.{Contains, All, Some}
use Rattle.std.proofs.Common.{ℕ, ◌≡◌, ◌+◌, List, [], ◌++◌, map, length, ◌∙◌, arith, inl, inr}
use Rattle.std.proofs.lemmas.List.Elements.{All-contains}
use Rattle.tree_model.specs.Signatures.{Signature, IsRoot}
use Rattle.flat_form.specs.declared.cube.Part.{Part}
use Rattle.flat_form.specs.declared.cube.Cube.{Cube}
use Rattle.flat_form.specs.Fitting.{BasicFits, CubeFits}
use Rattle.flat_form.specs.Numbering.{PartOver, IsWellNumbered}
use Rattle.flat_form.specs.Solved.{variable_of, IsSolved}
use Rattle.flat_form.specs.Orders.{new_number, renumbered_part}
use Rattle.flat_form.specs.Reduced.{IsReducedPart}
use Rattle.flat_form.specs.Steps.{Settles, NumbersInner, IsGrouped, IsCleared, Outcome}
use Rattle.flat_form.proofs.Symbols.{each_of, Fit, PartsFit, cube_fit, fits}
use Rattle.cube_facts.specs.Settling.{HasSettledShape}
use Rattle.cube_facts.proofs.Fits.{moved_parts_fit, renumbering_fits}
use Rattle.cube_facts.proofs.Settle.{settled_parts_shape}
use Rattle.step_facts.specs.Grouped.{IsGroupedCube}
use Rattle.step_facts.specs.Outcomes.{OutcomeIsOver, OutcomeIsSolved, OutcomeIsNumbered, OutcomeIsDistinct, OutcomePartsAreReduced, OutcomeIsReduced}
use Rattle.step_facts.proofs.StepFits.{rest_fit, parts_fit, settled_fit, busy_fit}
use Rattle.step_facts.proofs.Grouped.{grouped_is_right}
use Rattle.step_facts.proofs.Cleared.{finished, finished_distinct, end_over, end_solved, second_shape, second_some}
use Rattle.step_facts.proofs.InnerNumbers.{new_over, new_reduced}

-- the steps that come to a cube
record Steps (raw cube : Cube) : Type 0 where
  mid : Cube
  idle : List ℕ
  first : List Part
  group : IsGrouped raw mid idle
  settles : Settles (mid.free + mid.outer) mid.basic mid.parts first
  some : (part : Part) → Contains first part → ¬ (part.basic ≡ [])
  clear : IsCleared mid idle first cube

steps : (raw cube : Cube) → Outcome raw (Some cube) → Steps raw cube
steps raw cube (Outcome.cleared mid idle first it g settles some clears) =
    record { mid = mid; idle = idle; first = first; group = g; settles = settles; some = some; clear = clears }

pub outcome_is_numbered : OutcomeIsNumbered
outcome_is_numbered raw cube outcome = (steps raw cube outcome).clear.numbered

pub outcome_is_distinct : OutcomeIsDistinct
outcome_is_distinct raw cube outcome =
    let c = (steps raw cube outcome).clear in finished_distinct (cube.free + cube.outer) [] c.second cube.parts c.parts_are tt

module _ (raw cube : Cube) (over : IsWellNumbered raw) (s : Steps raw cube) where
  before : IsGroupedCube s.mid s.idle
  before = grouped_is_right raw s.mid s.idle over s.group

  settled : (part : Part) → Contains s.first part → HasSettledShape (s.mid.free + s.mid.outer) s.mid.basic part
  settled part i = All-contains (HasSettledShape (s.mid.free + s.mid.outer) s.mid.basic) s.first part
      (settled_parts_shape (s.mid.free + s.mid.outer) s.mid.basic s.mid.parts s.first before.solved before.over.basic before.over.parts s.settles) i

  solved : IsSolved cube.basic
  solved = end_solved s.mid s.idle s.first cube before s.clear

  shape : (part : Part) → Contains s.clear.second part → HasSettledShape (cube.free + cube.outer) cube.basic part
  shape part i = second_shape s.mid s.idle s.first cube before s.clear settled part i

  -- the part that a part of the cube was
  was : (new : Part) → Contains cube.parts new → (part : Part) × Contains s.clear.second part × NumbersInner (cube.free + cube.outer) part new
  was new i = elim (finished (cube.free + cube.outer) [] s.clear.second cube.parts s.clear.parts_are new i) [
    | inl none ↦ absurd (omega (arith, none.1))
    | inr found ↦ found
  ]

  well_numbered : IsWellNumbered cube
  well_numbered = record {
    basic = end_over s.mid s.idle s.first cube before s.clear;
    parts = each_of (PartOver (cube.free + cube.outer)) cube.parts (λ new i.
        let (part, stands, numbers) = was new i in
        new_over (cube.free + cube.outer) cube.basic (end_over s.mid s.idle s.first cube before s.clear) part new (shape part stands) numbers);
  }

  module _ (σ : Signature) (fitting : CubeFits σ raw) where
    mid_fit : Fit (IsRoot σ) s.mid.basic
    mid_fit = rest_fit (IsRoot σ) raw s.mid s.idle (cube_fit σ raw fitting) s.group

    first_fit : PartsFit (IsRoot σ) s.first
    first_fit = settled_fit (IsRoot σ) (s.mid.free + s.mid.outer) s.mid.basic s.mid.parts s.first mid_fit
        (parts_fit (IsRoot σ) raw s.mid s.idle (cube_fit σ raw fitting) s.group) s.settles

    abbrev number : ℕ → ℕ
    number v = new_number s.mid.free (s.mid.free + s.mid.outer) (s.clear.order ++ s.idle) v

    moved_fit : PartsFit (IsRoot σ) (map (renumbered_part number (length s.idle)) s.clear.busy)
    moved_fit = moved_parts_fit (IsRoot σ) number (length s.idle) s.clear.busy (busy_fit (IsRoot σ) s.idle s.first s.clear.busy first_fit s.clear.busy_is)

    base_fits : BasicFits σ cube.basic
    base_fits = fits σ cube.basic
        (renumbering_fits (IsRoot σ) number (λ atom. ¬ Contains s.idle (variable_of atom)) s.mid.basic cube.basic s.clear.basic_is mid_fit)

    some : (part : Part) → Contains s.clear.second part → ¬ (part.basic ≡ [])
    some part i = second_some s.mid s.idle s.first cube before s.clear settled σ base_fits (λ p j. fits σ p.basic (moved_fit.each p j)) s.some part i

    parts_reduced : All (IsReducedPart (cube.free + cube.outer) cube.basic) cube.parts
    parts_reduced = each_of (IsReducedPart (cube.free + cube.outer) cube.basic) cube.parts (λ new i.
        let (part, stands, numbers) = was new i in
        new_reduced (cube.free + cube.outer) cube.basic well_numbered.basic part new (shape part stands) numbers (some part stands))

pub outcome_is_over : OutcomeIsOver
outcome_is_over raw cube over outcome =
    let s = steps raw cube outcome in (s.clear.free_is ∙ s.group.free_is, well_numbered raw cube over s)

pub outcome_is_solved : OutcomeIsSolved
outcome_is_solved raw cube over outcome = solved raw cube over (steps raw cube outcome)

pub outcome_parts_are_reduced : OutcomePartsAreReduced
outcome_parts_are_reduced σ raw cube over fitting outcome = parts_reduced raw cube over (steps raw cube outcome) σ fitting

pub outcome_is_reduced : OutcomeIsReduced
outcome_is_reduced σ raw cube over fitting outcome = record {
  well_numbered = (outcome_is_over raw cube over outcome).1;
  solved = outcome_is_solved raw cube over outcome;
  numbered = outcome_is_numbered raw cube outcome;
  parts = outcome_parts_are_reduced σ raw cube over fitting outcome;
  distinct = outcome_is_distinct raw cube outcome;
}
