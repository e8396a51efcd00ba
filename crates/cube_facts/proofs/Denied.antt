-- The negation of a cube whose outer variables are determined by the free ones.
use Rattle.std.proofs.Common.{ℕ, ◌+◌, List, [], ◌∷◌, ◌++◌, map, refl, sym, ◌∙◌, arith, inl, inr}
use Rattle.classical.proofs.Stable.{◌>>=◌, either_way}
use Rattle.tree_model.specs.Signatures.{Signature}
use Rattle.tree_model.specs.Valuations.{Valuation}
use Rattle.flat_form.specs.declared.atom.Flat.{Flat}
use Rattle.flat_form.specs.declared.cube.Part.{Part}
use Rattle.flat_form.specs.declared.cube.Cube.{Cube}
use Rattle.flat_form.specs.Meanings.{Extends, BasicHolds, AllFail, SomeHolds}
use Rattle.flat_form.specs.Parts.{AllBelow}
use Rattle.flat_form.specs.FirstOccurrence.{IsNumbered}
use Rattle.flat_facts.proofs.Atoms.{atom_moves}
use Rattle.flat_facts.proofs.Follows.{over_below}
use Rattle.flat_facts.proofs.Lists.{holds_in, all_hold, both_hold, front_holds, later_holds}
use Rattle.cube_facts.specs.Raws.{DeniedMeans}
use Rattle.cube_facts.proofs.Determined.{outer_is_determined}

module _ (σ : Signature) (free outer : ℕ) (basic : List Flat) (e : Valuation σ) where
  -- the raw cubes of the parts
  abbrev beside : List Part → List Cube
  beside parts = map (λ (part : Part). record { free = free; outer = outer + part.inner; basic = basic ++ part.basic; parts = [] }) parts

  -- where some part has values, its cube holds
  some_part : AllBelow (free + outer) basic → (d : Valuation σ) → Extends free e d → BasicHolds d basic → (parts : List Part)
      → ¬ AllFail (free + outer) d parts → SomeHolds e (beside parts)
  some_part below d like h [] none = absurd (none tt)
  some_part below d like h (part ∷ parts) none = λ out. do
    c ← either_way ((z : Valuation σ) × Extends (free + outer) d z × BasicHolds z part.basic)
    elim c [
      | inl (z, on, k) ↦
          let at_z : BasicHolds z basic = all_hold z basic
          (λ a i. atom_moves a d z (λ v o path. sym (on v (below a i v o) path)) (holds_in d basic a h i)) in
          out (inl (λ no. no (z, ((λ v w path. on v (omega (arith, w)) path ∙ like v w path), both_hold z basic part.basic at_z k, tt))))
      | inr fails ↦ out (inr (some_part below d like h parts (λ rest. none ((λ z on k. fails (z, on, k)), rest))))
    ]

  -- a part with values under one solution of the basic has them under each with the same free values
  no_part : IsNumbered free (free + outer) basic → (d : Valuation σ) → Extends free e d → BasicHolds d basic → (parts : List Part)
      → AllFail (free + outer) d parts → ¬ SomeHolds e (beside parts)
  no_part numbered d like h [] none = λ some. some
  no_part numbered d like h (part ∷ parts) none = λ some. do
    c ← some
    elim c [
      | inr later ↦ no_part numbered d like h parts none.1 later
      | inl cube ↦ do
        (z, (on, both, unit)) ← cube
        none.0 z
            (outer_is_determined σ free (free + outer) basic z d numbered (front_holds z basic part.basic both) h (λ v w path. on v w path ∙ sym (like v w path)))
            (later_holds z basic part.basic both)
    ]

pub denied_means : DeniedMeans
denied_means σ cube e reduced = (
  (λ some holds. do
    (d, (like, h, none)) ← holds
    c ← some
    elim c [
      | inl first ↦ do
        (z, (on, unit, fails)) ← first
        fails.0 d (λ v w path. like v (omega (arith, w)) path ∙ sym (on v (omega (arith, w)) path)) h
      | inr later ↦ no_part σ cube.free cube.outer cube.basic e reduced.numbered d like h cube.parts none later
    ]),
  (λ not out. do
    c ← either_way ((d : Valuation σ) × Extends cube.free e d × BasicHolds d cube.basic)
    elim c [
      | inr none ↦ out (inl (λ no. no (e, ((λ v w path. refl), tt, ((λ z on h. none (z, (λ v w path. on v (omega (arith, w)) path), h)), tt)))))
      | inl (d, like, h) ↦ out (inr (some_part σ cube.free cube.outer cube.basic e (over_below (cube.free + cube.outer) cube.basic reduced.well_numbered.basic)
          d like h cube.parts (λ none. not (λ no. no (d, (like, h, none))))))
    ]),
)
