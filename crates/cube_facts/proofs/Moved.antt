-- The equations of determined variables move into every part, and the cube means the same.
use Rattle.std.proofs.Common.{ℕ, ◌≡◌, ◌+◌, List, [], ◌∷◌, ◌++◌, map, sym, ◌∙◌, subst, arith}
use Rattle.classical.proofs.Stable.{◌>>=◌}
use Rattle.tree_model.specs.Signatures.{Signature}
use Rattle.tree_model.specs.Valuations.{Valuation}
use Rattle.flat_form.specs.declared.atom.Flat.{Flat}
use Rattle.flat_form.specs.declared.cube.Part.{Part}
use Rattle.flat_form.specs.Meanings.{BasicHolds, Extends, AllFail, CubeHolds}
use Rattle.flat_form.specs.Fitting.{BasicFits}
use Rattle.flat_form.specs.Parts.{AllBelow}
use Rattle.flat_facts.specs.PartLaws.{Fails, Determines}
use Rattle.flat_facts.proofs.Atoms.{atom_moves}
use Rattle.flat_facts.proofs.Lists.{holds_in, all_hold, both_hold, front_holds, later_holds}
use Rattle.flat_facts.proofs.Moved.{fails_with_moved, fails_when_filled}
use Rattle.cube_facts.specs.Settling.{MovedMeans, with_moved}

-- atoms below m hold again under values that are the same below m
pub holds_again : {σ : Signature} (m : ℕ) (atoms : List Flat) (d e : Valuation σ) → AllBelow m atoms → Extends m d e → BasicHolds d atoms → BasicHolds e atoms
holds_again m atoms d e low like h =
    all_hold e atoms (λ a i. atom_moves a d e (λ v o path. sym (like v (low a i v o) path)) (holds_in d atoms a h i))

module _ (σ : Signature) (free kept count : ℕ) (rest moved : List Flat) (e : Valuation σ) (rest_low : AllBelow (free + kept) rest)
    (is : Determines (free + kept) (free + (kept + count)) moved) (fits : BasicFits σ moved) where
  inward : (d : Valuation σ) → BasicHolds d moved → (parts : List Part) → AllFail (free + (kept + count)) d parts
      → AllFail (free + kept) d (map (with_moved count moved) parts)
  inward d h [] all = tt
  inward d h (part ∷ parts) all = (
    λ y like both. fails_with_moved σ (free + kept) (free + (kept + count)) moved part.basic d is h all.0 y like
        (front_holds y moved part.basic both) (later_holds y moved part.basic both),
    inward d h parts all.1,
  )

  abbrev Filled : Valuation σ → Valuation σ → Type 0
  Filled e d = (part : List Flat) → ((y : Valuation σ) → Extends (free + kept) e y → BasicHolds y moved → ¬ BasicHolds y part) → Fails (free + (kept + count)) d part

  outward : (d full : Valuation σ) → Filled d full → (parts : List Part) → AllFail (free + kept) d (map (with_moved count moved) parts)
      → AllFail (free + (kept + count)) full parts
  outward d full fill [] all = tt
  outward d full fill (part ∷ parts) all = (
    fill part.basic (λ y like a b. all.0 y like (both_hold y moved part.basic a b)),
    outward d full fill parts all.1,
  )

  there : (parts : List Part) → CubeHolds e (record { free = free; outer = kept + count; basic = rest ++ moved; parts = parts })
      → CubeHolds e (record { free = free; outer = kept; basic = rest; parts = map (with_moved count moved) parts })
  there parts cube out = do
    (d, (like, both, all)) ← cube
    out (d, (like, front_holds d rest moved both, inward d (later_holds d rest moved both) parts all))

  back : (parts : List Part) → CubeHolds e (record { free = free; outer = kept; basic = rest; parts = map (with_moved count moved) parts })
      → CubeHolds e (record { free = free; outer = kept + count; basic = rest ++ moved; parts = parts })
  back parts cube out = do
    (d, (like, h, all)) ← cube
    let (full, on, holds, fill) = fails_when_filled σ (free + kept) (free + (kept + count)) moved d is fits in
        out (
          full,
          (
            (λ v w path. on v (omega (arith, w)) path ∙ like v w path),
            both_hold full rest moved (holds_again (free + kept) rest d full rest_low on h) holds,
            outward d full fill parts all,
          ),
        )

pub moved_means : MovedMeans
moved_means σ free kept count rest moved parts e low is fits =
    let sum : free + kept + count ≡ free + (kept + count) = omega arith in
    let so : Determines (free + kept) (free + (kept + count)) moved = subst (λ (n : ℕ). Determines (free + kept) n moved) sum is in
    (there σ free kept count rest moved e low so fits parts, back σ free kept count rest moved e low so fits parts)
