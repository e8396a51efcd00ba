-- The steps come to nothing exactly where the raw cube has no solution.
use Rattle.std.specs.Prelude.{Option, Some, None}
use Rattle.std.proofs.Common.{◌≡◌, refl}
use Rattle.flat_form.specs.declared.cube.Cube.{Cube}
use Rattle.flat_form.specs.Steps.{Outcome}
use Rattle.cube_facts.proofs.Solution.{reduced_solution}
use Rattle.step_facts.specs.Outcomes.{NoneExactly}
use Rattle.step_facts.proofs.StepFits.{outcome_fits}
use Rattle.step_facts.proofs.ReducedOutcomes.{outcome_is_reduced}
use Rattle.step_facts.proofs.OutcomeMeans.{outcome_means}

some_is_not_none : (cube : Cube) → ¬ (let it : Option Cube = Some cube in it ≡ None)
some_is_not_none cube = λ e. cc e

pub none_exactly : NoneExactly
none_exactly σ raw found over fits (Outcome.unsolvable none) =
    (λ e d. outcome_means σ raw None d over fits (Outcome.unsolvable none), λ no. refl)
none_exactly σ raw found over fits (Outcome.implied mid idle part g i is) =
    (λ e d. outcome_means σ raw None d over fits (Outcome.implied mid idle part g i is), λ no. refl)
none_exactly σ raw found over fits (Outcome.cleared mid idle first cube g settles some c) =
    let out : Outcome raw (Some cube) = Outcome.cleared mid idle first cube g settles some c in (
      λ e. absurd (some_is_not_none cube e),
      λ no. absurd (reduced_solution σ cube (outcome_is_reduced σ raw cube over fits out) (outcome_fits σ raw cube fits out)
          (λ holds. no holds.0 ((outcome_means σ raw (Some cube) holds.0 over fits out).1 holds.1))),
    )
