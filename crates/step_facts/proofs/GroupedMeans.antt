-- A grouped cube holds where the raw cube does.
use Rattle.std.specs.Prelude.{◌↔◌}
use Rattle.std.proofs.Common.{ℕ, ◌≡◌, ◌+◌, List, [], ◌∷◌, ◌++◌, map, length, refl, sym, ap, ◌∙◌, subst, arith, inl, inr}
use Rattle.std.proofs.lemmas.List.Elements.{Contains-append_cases, Contains-append_left, Contains-append_right}
use Rattle.classical.proofs.Stable.{◌>>=◌}
use Rattle.tree_model.specs.Signatures.{Signature, IsRoot}
use Rattle.tree_model.specs.Valuations.{Valuation}
use Rattle.flat_form.specs.declared.atom.Flat.{Flat}
use Rattle.flat_form.specs.declared.cube.Part.{Part}
use Rattle.flat_form.specs.declared.cube.Cube.{Cube}
use Rattle.flat_form.specs.Fitting.{BasicFits, CubeFits}
use Rattle.flat_form.specs.Meanings.{BasicHolds, AllFail, CubeHolds}
use Rattle.flat_form.specs.Numbering.{IsWellNumbered}
use Rattle.flat_form.specs.Parts.{renumbered}
use Rattle.flat_form.specs.Solved.{variable_of}
use Rattle.flat_form.specs.Orders.{new_number, renumbered_part}
use Rattle.flat_form.specs.Steps.{IsGrouped}
use Rattle.flat_form.proofs.Symbols.{fit, fits}
use Rattle.flat_facts.proofs.FiniteReached.{added_suffices}
use Rattle.flat_facts.proofs.Follows.{added_follows, added_fits}
use Rattle.cube_facts.specs.Numbers.{old_number}
use Rattle.cube_facts.specs.Settling.{with_moved}
use Rattle.cube_facts.specs.Renumbered.{IsRenumberedCube}
use Rattle.cube_facts.proofs.Fits.{renumbering_fits}
use Rattle.cube_facts.proofs.Variables.{stands_tells}
use Rattle.cube_facts.proofs.Moved.{moved_means}
use Rattle.cube_facts.proofs.PartsMove.{alike_at, bases_of_renumbered}
use Rattle.cube_facts.proofs.RenumberedCubes.{renumbered_means}
use Rattle.step_facts.specs.Grouped.{GroupedMeans}
use Rattle.step_facts.proofs.OneGrouping.{same_cube}
use Rattle.step_facts.proofs.NewNumbers.{bound_number, range_number, beyond_number}
use Rattle.step_facts.proofs.Grouped.{covers, number_back, number_fixed, rest_low, moved_determines}

-- a cube holds where one does whose basic holds with its own, and whose parts fail with its own
pub holds_beside : {σ : Signature} (e : Valuation σ) (one other : Cube) → one.free ≡ other.free
    → ((d : Valuation σ) → BasicHolds d one.basic → AllFail (one.free + one.outer) d one.parts
    → BasicHolds d other.basic × AllFail (other.free + other.outer) d other.parts)
    → CubeHolds e one → CubeHolds e other
holds_beside e one other free there holds out = do
  (d, (like, h, all)) ← holds
  let k = there d h all in out (d, (λ v w path. like v (omega (arith, free, w)) path, k.0, k.1))

both_numbers : (f : ℕ → ℕ) (more : ℕ) (moved : List Flat) (parts : List Part)
    → map (λ (part : Part). let it : Part = record { inner = more + part.inner; basic = moved ++ map (renumbered f) part.basic } in it) parts
    ≡ map (with_moved more moved) (map (renumbered_part f 0) parts)
both_numbers f more moved [] = refl
both_numbers f more moved (part ∷ parts) =
    let zero : part.inner ≡ 0 + part.inner = omega arith in
    ap (λ (n : ℕ). let it : Part = record { inner = more + n; basic = moved ++ map (renumbered f) part.basic } in
    it ∷ map (λ (part : Part). let it : Part = record { inner = more + part.inner; basic = moved ++ map (renumbered f) part.basic } in it) parts) zero
    ∙ ap (λ (rest : List Part). with_moved more moved (renumbered_part f 0 part) ∷ rest) (both_numbers f more moved parts)

module _ (σ : Signature) (raw mid : Cube) (idle : List ℕ) (e : Valuation σ) (over : IsWellNumbered raw) (raw_fits : CubeFits σ raw) (g : IsGrouped raw mid idle) where
  abbrev number : ℕ → ℕ
  number v = new_number raw.free (raw.free + raw.outer) (g.kept ++ g.determined) v

  abbrev solved_cube : Cube
  solved_cube = record { free = raw.free; outer = raw.outer; basic = g.form; parts = raw.parts }

  abbrev renumbered_cube : Cube
  renumbered_cube = record {
    free = raw.free;
    outer = length g.kept + length g.determined;
    basic = mid.basic ++ g.moved;
    parts = map (renumbered_part (new_number raw.free (raw.free + raw.outer) (g.kept ++ g.determined)) 0) raw.parts;
  }

  abbrev moved_cube : Cube
  moved_cube = record {
    free = raw.free;
    outer = length g.kept;
    basic = mid.basic;
    parts = map (with_moved (length g.determined) g.moved) (map (renumbered_part (new_number raw.free (raw.free + raw.outer) (g.kept ++ g.determined)) 0) raw.parts);
  }

  solves : CubeHolds e raw → CubeHolds e solved_cube
  solves = holds_beside e raw solved_cube refl (λ d h all. (added_follows σ [] raw.basic g.form d g.solved h, all))

  solved_back : CubeHolds e solved_cube → CubeHolds e raw
  solved_back = holds_beside e solved_cube raw refl (λ d h all. (added_suffices σ [] raw.basic g.form d (λ u r i. absurd (omega (arith, i.1))) g.solved tt h, all))

  is_renumbered : IsRenumberedCube number (old_number raw.free (raw.free + raw.outer) (g.kept ++ g.determined)) solved_cube renumbered_cube
  is_renumbered = record {
    free = λ v s. record {
      back = number_back raw mid idle over.basic g v;
      low = λ w. omega (arith, (number_fixed raw mid idle over.basic g v w).0, w);
      high = λ w. bound_number raw.free (raw.free + raw.outer) g.kept g.determined (omega arith) (covers raw mid idle over.basic g) v w;
    };
    moves = λ v s. record {
      back = number_back raw mid idle over.basic g v;
      low = λ w.
          let r = range_number raw.free (raw.free + raw.outer) g.kept g.determined (omega arith) (covers raw mid idle over.basic g) v w in omega (arith, r);
      high = λ w.
          let r = beyond_number raw.free (raw.free + raw.outer) g.kept g.determined (omega arith) (covers raw mid idle over.basic g) v w in omega (arith, r);
    };
    basic_is = λ a. (
      λ i. elim (Contains-append_cases mid.basic g.moved a i) [
        | inl j ↦ let (b, k, none, q) = (g.rest_is.is a).0 j in (b, k, q)
        | inr j ↦ let (b, k, d, q) = (g.moved_is.is a).0 j in (b, k, q)
      ],
      λ from. let (b, k, q) = from in elim (stands_tells g.determined (variable_of b)) [
        | inl h ↦ Contains-append_right mid.basic g.moved a ((g.moved_is.is a).1 (b, k, h.1, q))
        | inr h ↦ Contains-append_left mid.basic g.moved a ((g.rest_is.is a).1 (b, k, h.1, q))
      ],
    );
    parts_are = bases_of_renumbered number 0 raw.parts;
  }

  moved_fits : BasicFits σ g.moved
  moved_fits = fits σ g.moved (renumbering_fits (IsRoot σ) _ _ g.form g.moved g.moved_is (fit σ g.form (added_fits σ [] raw.basic g.form raw_fits.basic g.solved)))

  mid_is : mid ≡ moved_cube
  mid_is = same_cube mid moved_cube g.free_is g.outer_is refl (g.parts_are ∙ both_numbers number (length g.determined) g.moved raw.parts)

  across : CubeHolds e solved_cube ↔ CubeHolds e renumbered_cube
  across = renumbered_means σ solved_cube renumbered_cube number (old_number raw.free (raw.free + raw.outer) (g.kept ++ g.determined)) e e is_renumbered
      (λ v w s. alike_at e v (number v) (sym (number_fixed raw mid idle over.basic g v w).0))

  moves : CubeHolds e renumbered_cube ↔ CubeHolds e moved_cube
  moves = moved_means σ raw.free (length g.kept) (length g.determined) mid.basic g.moved
      (map (renumbered_part (new_number raw.free (raw.free + raw.outer) (g.kept ++ g.determined)) 0) raw.parts) e
      (rest_low raw mid idle over.basic g) (moved_determines raw mid idle over.basic g) moved_fits

  pub grouped_cube_means : CubeHolds e raw ↔ CubeHolds e mid
  grouped_cube_means = (
    λ h. subst (λ (c : Cube). CubeHolds e c) (sym mid_is) (moves.0 (across.0 (solves h))),
    λ h. solved_back (across.1 (moves.1 (subst (λ (c : Cube). CubeHolds e c) mid_is h))),
  )

pub grouped_means : GroupedMeans
grouped_means σ raw mid idle e over raw_fits g = grouped_cube_means σ raw mid idle e over raw_fits g
