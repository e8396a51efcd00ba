use Rattle.std.specs.Prelude.{All, Contains, IfOk, IfSome, ◌↔◌}
use Rattle.std.proofs.Common.{◌≡◌, subst, Option, None}
use Rattle.std.proofs.lemmas.Result.{IfOk-weaker}
use Rattle.tree_model.specs.Signatures.{Signature}
use Rattle.tree_model.specs.Valuations.{Valuation}
use Rattle.flat_form.specs.declared.cube.Cube.{Cube}
use Rattle.flat_form.specs.Fitting.{CubeFits}
use Rattle.flat_form.specs.Meanings.{CubeHolds}
use Rattle.flat_form.specs.Numbering.{IsWellNumbered}
use Rattle.flat_form.specs.Reduced.{IsReduced}
use Rattle.flat_form.specs.Steps.{Outcome}
use Rattle.flat_form.specs.Symbols.{cube_symbols}
use Rattle.cube_reduction.proofs.Outcomes.{is_over, is_reduced, means, none, symbols}
use Rattle.cube_reduction.proofs.reducing.reduce.Goals as goal

pub returns-clause-over : goal.returns-clause-over
returns-clause-over c =
    let raw = c.args.raw.now in
    IfOk-weaker c.outcome_of.result (λ (found : Option Cube). Outcome raw found) (λ (found : Option Cube). IfSome found (λ (cube : Cube). (cube.free ≡ raw.free) × IsWellNumbered cube))
    (λ found outcome. is_over raw c.requires found outcome) (subst (λ (z : Cube). IfOk c.outcome_of.result (Outcome z)) c.in_ok-copy.ensures c.outcome_of.ensures)

pub returns-clause-reduced : goal.returns-clause-reduced
returns-clause-reduced c =
    let raw = c.args.raw.now in
    IfOk-weaker c.outcome_of.result (λ (found : Option Cube). Outcome raw found) (λ (found : Option Cube). IfSome found (λ (cube : Cube). (σ : Signature) → CubeFits σ raw → IsReduced cube))
    (λ found outcome. is_reduced raw c.requires found outcome) (subst (λ (z : Cube). IfOk c.outcome_of.result (Outcome z)) c.in_ok-copy.ensures c.outcome_of.ensures)

pub returns-clause-means : goal.returns-clause-means
returns-clause-means c =
    let raw = c.args.raw.now in
    IfOk-weaker c.outcome_of.result (λ (found : Option Cube). Outcome raw found)
    (λ (found : Option Cube). IfSome found (λ (cube : Cube). (σ : Signature) (e : Valuation σ) → CubeFits σ raw → CubeHolds e raw ↔ CubeHolds e cube))
    (λ found outcome. means raw c.requires found outcome) (subst (λ (z : Cube). IfOk c.outcome_of.result (Outcome z)) c.in_ok-copy.ensures c.outcome_of.ensures)

pub returns-clause-none : goal.returns-clause-none
returns-clause-none c =
    let raw = c.args.raw.now in
    IfOk-weaker c.outcome_of.result (λ (found : Option Cube). Outcome raw found)
    (λ (found : Option Cube). (σ : Signature) → CubeFits σ raw → (found ≡ None) ↔ ((e : Valuation σ) → ¬ CubeHolds e raw))
    (λ found outcome. none raw c.requires found outcome) (subst (λ (z : Cube). IfOk c.outcome_of.result (Outcome z)) c.in_ok-copy.ensures c.outcome_of.ensures)

pub returns-clause-symbols : goal.returns-clause-symbols
returns-clause-symbols c =
    let raw = c.args.raw.now in
    IfOk-weaker c.outcome_of.result (λ (found : Option Cube). Outcome raw found) (λ (found : Option Cube). IfSome found (λ (cube : Cube). All (Contains (cube_symbols raw)) (cube_symbols cube)))
    (λ found outcome. symbols raw c.requires found outcome) (subst (λ (z : Cube). IfOk c.outcome_of.result (Outcome z)) c.in_ok-copy.ensures c.outcome_of.ensures)
