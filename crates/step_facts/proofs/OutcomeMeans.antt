-- What the steps come to means what the raw cube does.
use Rattle.std.specs.Prelude.{Contains, ◌↔◌}
use Rattle.std.proofs.Common.{ℕ, ◌+◌, List, [], refl}
use Rattle.tree_model.specs.Signatures.{Signature}
use Rattle.tree_model.specs.Valuations.{Valuation}
use Rattle.flat_form.specs.declared.cube.Part.{Part}
use Rattle.flat_form.specs.declared.cube.Cube.{Cube}
use Rattle.flat_form.specs.Fitting.{AtomFits, CubeFits}
use Rattle.flat_form.specs.Meanings.{CubeHolds}
use Rattle.flat_form.specs.Numbering.{IsWellNumbered}
use Rattle.flat_form.specs.Steps.{IsGrouped, Settles, IsImplied, IsCleared, Outcome}
use Rattle.flat_facts.proofs.Follows.{over_below}
use Rattle.cube_facts.proofs.Settle.{all_of, settled_fails}
use Rattle.step_facts.specs.Outcomes.{OutcomeMeans}
use Rattle.step_facts.proofs.ClearedMeans.{mid_fits, mid_part_fits, settled_there, settled_back, cleared_means}
use Rattle.step_facts.proofs.Finished.{one_fails}
use Rattle.step_facts.proofs.Grouped.{grouped_is_right}
use Rattle.step_facts.proofs.GroupedMeans.{grouped_means}

module _ (σ : Signature) (raw mid : Cube) (idle : List ℕ) (e : Valuation σ) (over : IsWellNumbered raw) (raw_fits : CubeFits σ raw) (g : IsGrouped raw mid idle) where
  implied_fails : (part : Part) → Contains mid.parts part → IsImplied (mid.free + mid.outer) mid.basic part → ¬ CubeHolds e raw
  implied_fails part i (added, adds, cut) = λ holds. (grouped_means σ raw mid idle e over raw_fits g).0 holds (λ found.
      let before = grouped_is_right raw mid idle over g in
      settled_fails (mid.free + mid.outer) mid.basic part.basic before.solved (over_below (mid.free + mid.outer) mid.basic before.over.basic) σ found.0 found.1.1
      (all_of (AtomFits σ) mid.basic part.basic (mid_fits σ raw mid mid idle [] e over raw_fits g) (mid_part_fits σ raw mid mid idle [] e over raw_fits g part i))
      added [] adds cut (one_fails (mid.free + mid.outer) found.0 mid.parts part found.1.2 i) found.0 (λ v w path. refl) tt)

  outcome_holds : (first : List Part) (cube : Cube) → Settles (mid.free + mid.outer) mid.basic mid.parts first → IsCleared mid idle first cube
      → CubeHolds e raw ↔ CubeHolds e cube
  outcome_holds first cube settles c =
      let group = grouped_means σ raw mid idle e over raw_fits g in
      let clear = cleared_means σ raw mid cube idle first e over raw_fits g settles c in (
        λ h. clear.0 (settled_there σ raw mid cube idle first e over raw_fits g settles (group.0 h)),
        λ h. group.1 (settled_back σ raw mid cube idle first e over raw_fits g settles (clear.1 h)),
      )

pub outcome_means : OutcomeMeans
outcome_means σ raw found e over raw_fits (Outcome.unsolvable none) = λ holds. holds (λ found. none σ found.0 found.1.1)
outcome_means σ raw found e over raw_fits (Outcome.implied mid idle part g i is) = implied_fails σ raw mid idle e over raw_fits g part i is
outcome_means σ raw found e over raw_fits (Outcome.cleared mid idle first cube g settles some c) = outcome_holds σ raw mid idle e over raw_fits g first cube settles c
