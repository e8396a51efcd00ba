-- A cleared cube holds where the grouped cube does with its settled parts.
use Rattle.std.specs.Prelude.{Contains, ◌↔◌}
use Rattle.std.proofs.Common.{ℕ, ◌+◌, List, [], ◌∷◌, ◌++◌, map, length, refl, sym, subst, arith, inl, inr}
use Rattle.tree_model.specs.Signatures.{Signature, IsRoot}
use Rattle.tree_model.specs.Valuations.{Valuation}
use Rattle.tree_facts.proofs.Members.{contains_first, contains_later, contains_cases}
use Rattle.flat_form.specs.declared.atom.Flat.{Flat}
use Rattle.flat_form.specs.declared.cube.Part.{Part}
use Rattle.flat_form.specs.declared.cube.Cube.{Cube}
use Rattle.flat_form.specs.Fitting.{BasicFits, CubeFits}
use Rattle.flat_form.specs.Meanings.{CubeHolds}
use Rattle.flat_form.specs.Numbering.{IsWellNumbered}
use Rattle.flat_form.specs.Parts.{AllBelow, IsPartOver}
use Rattle.flat_form.specs.Solved.{variable_of, IsSolved}
use Rattle.flat_form.specs.Orders.{new_number, renumbered_part}
use Rattle.flat_form.specs.Steps.{IsGrouped, Settles, IsCleared}
use Rattle.flat_form.proofs.Symbols.{each_of, Fit, PartsFit, fits, cube_fit}
use Rattle.flat_facts.proofs.Follows.{over_below}
use Rattle.cube_facts.specs.Numbers.{old_number}
use Rattle.cube_facts.specs.Renumbered.{StandsInCube, in_basic, in_part, IsRenumberedCube}
use Rattle.cube_facts.proofs.Fits.{renumbering_fits, moved_parts_fit}
use Rattle.cube_facts.proofs.Variables.{stands_tells}
use Rattle.cube_facts.proofs.Idle.{idle_may_go}
use Rattle.cube_facts.proofs.Settle.{settles_there, settles_back, settles_over}
use Rattle.cube_facts.proofs.PartsMove.{alike_at, bases_of_renumbered}
use Rattle.cube_facts.proofs.RenumberedCubes.{renumbered_means}
use Rattle.step_facts.specs.Grouped.{IsGroupedCube}
use Rattle.step_facts.specs.Cleared.{ClearedMeans}
use Rattle.step_facts.proofs.StepFits.{settled_fit, busy_fit, rest_fit, parts_fit}
use Rattle.step_facts.proofs.Finished.{finished_fails}
use Rattle.step_facts.proofs.Grouped.{grouped_is_right}
use Rattle.step_facts.proofs.Cleared.{busy_parts, not_idle, last_back, last_fixed, last_bound, last_low, last_high, end_over, end_solved}
use Rattle.step_facts.proofs.GroupedMeans.{holds_beside}

-- the atoms of other variables than these
record Others (idle : List ℕ) (basic : List Flat) : Type 0 where
  rest : List Flat
  is : (a : Flat) → Contains rest a ↔ (Contains basic a × (¬ Contains idle (variable_of a)))

others : (idle : List ℕ) (basic : List Flat) → Others idle basic
others idle [] = record { rest = []; is = λ a. (λ i. absurd (omega (arith, i.1)), λ p. p.0) }
others idle (b ∷ basic) =
    let more = others idle basic in
    elim (stands_tells idle (variable_of b)) [
      | inl h ↦ record {
        rest = more.rest;
        is = λ a. (
          λ i. let p = (more.is a).0 i in (contains_later b a basic p.0, p.1),
          λ p. elim (contains_cases b a basic p.0) [
            | inl e ↦ absurd (p.1 (subst (λ (c : Flat). Contains idle (variable_of c)) e h.1))
            | inr later ↦ (more.is a).1 (later, p.1)
          ],
        );
      }
      | inr h ↦ record {
        rest = b ∷ more.rest;
        is = λ a. (
          λ i. elim (contains_cases b a more.rest i) [
            | inl e ↦ (subst (Contains (b ∷ basic)) e (contains_first b basic), subst (λ (c : Flat). ¬ Contains idle (variable_of c)) e h.1)
            | inr later ↦ let p = (more.is a).0 later in (contains_later b a basic p.0, p.1)
          ],
          λ p. elim (contains_cases b a basic p.0) [
            | inl e ↦ subst (Contains (b ∷ more.rest)) e (contains_first b more.rest)
            | inr later ↦ contains_later b a more.rest ((more.is a).1 (later, p.1))
          ],
        );
      }
    ]

module _ (mid cube : Cube) (idle : List ℕ) (first : List Part) (before : IsGroupedCube mid idle) (c : IsCleared mid idle first cube) where
  -- the grouped cube without what is idle, under its last numbers
  is_renumbered : (rest : List Flat) → ((a : Flat) → Contains rest a ↔ (Contains mid.basic a × (¬ Contains idle (variable_of a))))
      → IsRenumberedCube (λ v. new_number mid.free (mid.free + mid.outer) (c.order ++ idle) v) (λ v. old_number mid.free (mid.free + mid.outer) (c.order ++ idle) v)
      (record { free = mid.free; outer = mid.outer; basic = rest; parts = c.busy })
      (record {
        free = cube.free;
        outer = cube.outer;
        basic = cube.basic;
        parts = map (renumbered_part (new_number mid.free (mid.free + mid.outer) (c.order ++ idle)) (length idle)) c.busy;
      })
  is_renumbered rest rest_is = record {
    free = λ v s. record {
      back = last_back mid idle first cube before c v;
      low = λ w. omega (arith, (last_fixed mid idle first cube before c v w).0, w, c.free_is);
      high = λ le. let e = last_bound mid idle first cube before c v le in omega (arith, e, c.free_is);
    };
    moves = λ v s. record {
      back = last_back mid idle first cube before c v;
      low = λ w. last_low mid idle first cube before c v w (stands_busy v s);
      high = λ le. let e = last_high mid idle first cube before c v le in omega (arith, e);
    };
    basic_is = λ a. (
      λ i. let (b, j, none, e) = (c.basic_is.is a).0 i in (b, (rest_is b).1 (j, none), e),
      λ from. let (b, j, e) = from in let p = (rest_is b).0 j in (c.basic_is.is a).1 (b, p.0, p.1, e),
    );
    parts_are = bases_of_renumbered (λ v. new_number mid.free (mid.free + mid.outer) (c.order ++ idle) v) (length idle) c.busy;
  }
    where
      stands_busy : (v : ℕ) → StandsInCube (record { free = mid.free; outer = mid.outer; basic = rest; parts = c.busy }) v → ¬ Contains idle v
      stands_busy v (in_basic (a, i, o)) = let p = (rest_is a).0 i in not_idle mid idle before a p.0 p.1 v o
      stands_busy v (in_part part i says) = λ k. (busy_parts idle first c.busy c.busy_is part i).1 v k says

module _ (σ : Signature) (raw mid cube : Cube) (idle : List ℕ) (first : List Part) (e : Valuation σ) (over : IsWellNumbered raw) (raw_fits : CubeFits σ raw)
    (g : IsGrouped raw mid idle) where
  before : IsGroupedCube mid idle
  before = grouped_is_right raw mid idle over g

  mid_low : AllBelow (mid.free + mid.outer) mid.basic
  mid_low = over_below (mid.free + mid.outer) mid.basic before.over.basic

  mid_fit : Fit (IsRoot σ) mid.basic
  mid_fit = rest_fit (IsRoot σ) raw mid idle (cube_fit σ raw raw_fits) g

  mid_parts_fit : PartsFit (IsRoot σ) mid.parts
  mid_parts_fit = parts_fit (IsRoot σ) raw mid idle (cube_fit σ raw raw_fits) g

  pub mid_fits : BasicFits σ mid.basic
  mid_fits = fits σ mid.basic mid_fit

  pub mid_part_fits : (part : Part) → Contains mid.parts part → BasicFits σ part.basic
  mid_part_fits part i = fits σ part.basic (mid_parts_fit.each part i)

  module _ (settles : Settles (mid.free + mid.outer) mid.basic mid.parts first) where
    abbrev settled_cube : Cube
    settled_cube = record { free = mid.free; outer = mid.outer; basic = mid.basic; parts = first }

    pub settled_there : CubeHolds e mid → CubeHolds e settled_cube
    settled_there = holds_beside e mid settled_cube refl (λ d h all. (
      h,
      settles_there σ (mid.free + mid.outer) mid.basic before.solved mid_low mid_fits d h mid.parts first settles mid_part_fits all,
    ))

    pub settled_back : CubeHolds e settled_cube → CubeHolds e mid
    settled_back = holds_beside e settled_cube mid refl (λ d h all. (
      h,
      settles_back σ (mid.free + mid.outer) mid.basic before.solved mid_low mid_fits d h mid.parts first settles mid_part_fits all,
    ))

    module _ (c : IsCleared mid idle first cube) where
      abbrev last_parts : List Part
      last_parts = map (renumbered_part (new_number mid.free (mid.free + mid.outer) (c.order ++ idle)) (length idle)) c.busy

      abbrev last_cube : Cube
      last_cube = record { free = cube.free; outer = cube.outer; basic = cube.basic; parts = last_parts }

      across : (o : Others idle mid.basic) → CubeHolds e settled_cube ↔ CubeHolds e last_cube
      across o =
          let idle_cube : Cube = record { free = mid.free; outer = mid.outer; basic = o.rest; parts = c.busy } in
          let goes : CubeHolds e settled_cube ↔ CubeHolds e idle_cube = idle_may_go σ settled_cube idle o.rest c.busy e before.solved
          (each_of (λ (part : Part). IsPartOver (mid.free + mid.outer) mid.basic part.basic) first
          (settles_over (mid.free + mid.outer) mid.basic before.solved mid_low mid.parts first settles))
          (λ v i. (before.outer v i, before.alone v i)) c.busy_is o.is in
          let moves : CubeHolds e idle_cube ↔ CubeHolds e last_cube = renumbered_means σ idle_cube last_cube
          (λ v. new_number mid.free (mid.free + mid.outer) (c.order ++ idle) v) (λ v. old_number mid.free (mid.free + mid.outer) (c.order ++ idle) v) e e
          (is_renumbered mid cube idle first before c o.rest o.is)
          (λ v w s. alike_at e v (new_number mid.free (mid.free + mid.outer) (c.order ++ idle) v) (sym (last_fixed mid idle first cube before c v w).0)) in
          (λ h. moves.0 (goes.0 h), λ h. goes.1 (moves.1 h))

      cube_fits_here : BasicFits σ cube.basic
      cube_fits_here = fits σ cube.basic (renumbering_fits (IsRoot σ) _ _ mid.basic cube.basic c.basic_is mid_fit)

      last_fits : (part : Part) → Contains last_parts part → BasicFits σ part.basic
      last_fits part i = fits σ part.basic ((moved_parts_fit (IsRoot σ) (new_number mid.free (mid.free + mid.outer) (c.order ++ idle)) (length idle) c.busy
          (busy_fit (IsRoot σ) idle first c.busy (settled_fit (IsRoot σ) (mid.free + mid.outer) mid.basic mid.parts first mid_fit mid_parts_fit settles) c.busy_is)).each part i)

      cube_solved : IsSolved cube.basic
      cube_solved = end_solved mid idle first cube before c

      cube_low : AllBelow (cube.free + cube.outer) cube.basic
      cube_low = over_below (cube.free + cube.outer) cube.basic (end_over mid idle first cube before c)

      ends : CubeHolds e last_cube → CubeHolds e cube
      ends = holds_beside e last_cube cube refl (λ d h all. (
        h,
        (finished_fails σ (cube.free + cube.outer) c.second cube.parts d c.parts_are).0
            (settles_there σ (cube.free + cube.outer) cube.basic cube_solved cube_low cube_fits_here d h last_parts c.second c.second_is last_fits all),
      ))

      begins : CubeHolds e cube → CubeHolds e last_cube
      begins = holds_beside e cube last_cube refl (λ d h all. (
        h,
        settles_back σ (cube.free + cube.outer) cube.basic cube_solved cube_low cube_fits_here d h last_parts c.second c.second_is last_fits
            ((finished_fails σ (cube.free + cube.outer) c.second cube.parts d c.parts_are).1 all),
      ))

      pub cleared_cube_means : CubeHolds e settled_cube ↔ CubeHolds e cube
      cleared_cube_means = let o = others idle mid.basic in (λ h. ends ((across o).0 h), λ h. (across o).1 (begins h))

pub cleared_means : ClearedMeans
cleared_means σ raw mid cube idle first e over raw_fits g settles c = cleared_cube_means σ raw mid cube idle first e over raw_fits g settles c
