-- The list of atoms alone.
use Rattle.std.specs.Prelude.{◌↔◌}
use Rattle.std.proofs.Common.{ℕ, ◌+◌, List, [], ◌∷◌, refl, arith, inl, inr}
use Rattle.std.proofs.lemmas.List.Elements.{All-nil, All-cons}
use Rattle.classical.proofs.Stable.{◌>>=◌}
use Rattle.tree_model.specs.Signatures.{Signature}
use Rattle.tree_model.specs.Valuations.{Valuation}
use Rattle.flat_form.specs.declared.atom.Flat.{Flat}
use Rattle.flat_form.specs.declared.cube.Part.{Part}
use Rattle.flat_form.specs.declared.cube.Cube.{Cube}
use Rattle.flat_form.specs.Fitting.{BasicFits, CubeFits}
use Rattle.flat_form.specs.Meanings.{BasicHolds, SomeHolds}
use Rattle.flat_form.specs.Numbering.{BasicOver, PartOver}
use Rattle.flat_form.specs.Symbols.{CubesFit}
use Rattle.flat_form.proofs.Stable.{basic_stable}
use Rattle.cube_facts.proofs.Raws.{basic_wider}
use Rattle.list_facts.specs.Lists.{AreRaw, AreReduced}
use Rattle.list_facts.proofs.Takes.{Over, steps_mean_all}
use Rattle.step_facts.specs.Lists.{TakesSteps}
use Rattle.node_facts.proofs.Beside.{holds_back}

-- the raw cube of atoms alone
abbrev pub alone : ℕ → List Flat → Cube
alone m basic = record { free = m; outer = 0; basic = basic; parts = [] }

pub alone_fits : (σ : Signature) (m : ℕ) (basic : List Flat) → BasicFits σ basic → CubesFit σ (alone m basic ∷ [])
alone_fits σ m basic fits =
    All-cons (CubeFits σ) (alone m basic) [] (record { basic = fits; parts = All-nil (λ (part : Part). BasicFits σ part.basic) }) (All-nil (CubeFits σ))

module _ (σ : Signature) (m : ℕ) (basic : List Flat) (over : BasicOver m basic) (fits : BasicFits σ basic) where
  alone_raw : AreRaw σ m (alone m basic ∷ [])
  alone_raw = record {
    over = All-cons (Over m) (alone m basic) []
        (refl, record { basic = basic_wider m (m + 0) (omega arith) basic over; parts = All-nil (PartOver (m + 0)) }) (All-nil (Over m));
    fit = alone_fits σ m basic fits;
  }

  pub first_reduced : (first : List Cube) → TakesSteps [] (alone m basic ∷ []) first → AreReduced σ m first
  first_reduced first is = steps_mean_all.reduced σ m (alone m basic ∷ []) first alone_raw is

  -- it holds where the atoms do
  pub first_means : (first : List Cube) (e : Valuation σ) → TakesSteps [] (alone m basic ∷ []) first → SomeHolds e first ↔ BasicHolds e basic
  first_means first e is =
      let taken = steps_mean_all.means σ m (alone m basic ∷ []) first e alone_raw is in (
        (λ some. (basic_stable σ e basic).holds (λ none. do
          c ← taken.0 some
          elim c [
            | inl cube ↦ do
              (d, (like, holds, unit)) ← cube
              none (holds_back m basic e d over like holds)
            | inr nothing ↦ nothing
          ])),
        (λ holds. taken.1 (λ out. out (inl (λ none. none (e, ((λ v w path. refl), holds, tt)))))),
      )
