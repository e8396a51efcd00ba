-- What the outcome of the steps is: well numbered, reduced, of the same meaning, and with no other symbols.
use Rattle.std.specs.Prelude.{All, Contains, IfSome, ◌↔◌}
use Rattle.std.proofs.Common.{◌≡◌, Option, Some, None}
use Rattle.tree_model.specs.Signatures.{Signature}
use Rattle.tree_model.specs.Valuations.{Valuation}
use Rattle.flat_form.specs.declared.cube.Cube.{Cube}
use Rattle.flat_form.specs.Fitting.{CubeFits}
use Rattle.flat_form.specs.Meanings.{CubeHolds}
use Rattle.flat_form.specs.Numbering.{IsWellNumbered}
use Rattle.flat_form.specs.Reduced.{IsReduced}
use Rattle.flat_form.specs.Steps.{Outcome}
use Rattle.flat_form.specs.Symbols.{cube_symbols}
use Rattle.step_facts.proofs.ReducedOutcomes.{outcome_is_over, outcome_is_reduced}
use Rattle.step_facts.proofs.OutcomeMeans.{outcome_means}
use Rattle.step_facts.proofs.NoneExactly.{none_exactly}
use Rattle.step_facts.proofs.StepFits.{outcome_symbols}

module _ (raw : Cube) (over : IsWellNumbered raw) where
  pub is_over : (found : Option Cube) → Outcome raw found → IfSome found (λ (cube : Cube). (cube.free ≡ raw.free) × IsWellNumbered cube)
  is_over None outcome = tt
  is_over (Some cube) outcome = outcome_is_over raw cube over outcome

  pub is_reduced : (found : Option Cube) → Outcome raw found → IfSome found (λ (cube : Cube). (σ : Signature) → CubeFits σ raw → IsReduced cube)
  is_reduced None outcome = tt
  is_reduced (Some cube) outcome = λ σ fits. outcome_is_reduced σ raw cube over fits outcome

  pub means : (found : Option Cube) → Outcome raw found
      → IfSome found (λ (cube : Cube). (σ : Signature) (e : Valuation σ) → CubeFits σ raw → CubeHolds e raw ↔ CubeHolds e cube)
  means None outcome = tt
  means (Some cube) outcome = λ σ e fits. outcome_means σ raw (Some cube) e over fits outcome

  pub none : (found : Option Cube) → Outcome raw found → (σ : Signature) → CubeFits σ raw → (found ≡ None) ↔ ((e : Valuation σ) → ¬ CubeHolds e raw)
  none found outcome σ fits = none_exactly σ raw found over fits outcome

  pub symbols : (found : Option Cube) → Outcome raw found → IfSome found (λ (cube : Cube). All (Contains (cube_symbols raw)) (cube_symbols cube))
  symbols None outcome = tt
  symbols (Some cube) outcome = outcome_symbols raw cube outcome
