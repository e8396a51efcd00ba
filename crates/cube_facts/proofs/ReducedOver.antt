-- The parts of a reduced cube have the shape of parts.
use Rattle.std.specs.Prelude.{Contains}
use Rattle.std.proofs.Common.{ℕ, ◌≡◌, ◌<◌, ◌+◌, List, sym, subst, arith, inl, inr, ◌⊎◌}
use Rattle.std.proofs.lemmas.List.Elements.{All-contains}
use Rattle.flat_form.specs.declared.atom.Flat.{Flat}
use Rattle.flat_form.specs.declared.atom.Flat.TheVariants.{VarVar}
use Rattle.flat_form.specs.declared.cube.Part.{Part}
use Rattle.flat_form.specs.declared.cube.Cube.{Cube}
use Rattle.flat_form.specs.Numbering.{PartOver}
use Rattle.flat_form.specs.Parts.{AllBelow, IsPartOver}
use Rattle.flat_form.specs.Solved.{variable_of, HasTerm, IsSolved}
use Rattle.flat_form.specs.Reduced.{IsReducedPart, IsReduced}
use Rattle.flat_form.proofs.Symbols.{each_of}
use Rattle.flat_facts.proofs.Follows.{over_below}
use Rattle.cube_facts.specs.Fresh.{ReducedIsOver}
use Rattle.cube_facts.proofs.Variables.{own_variable}
use Rattle.cube_facts.proofs.Determined.{numbered_is_under}
use Rattle.cube_facts.proofs.Settle.{term_apart}

module _ (m : ℕ) (base : List Flat) (part : Part) (solved : IsSolved base) (base_low : AllBelow m base) (reduced : IsReducedPart m base part)
    (low : AllBelow (m + part.inner) part.basic) where
  right_side : (u h : ℕ) → Contains part.basic (VarVar u h) → u < m → (h < u) ⊎ HasTerm base h
      → (u < m) × (h < m) × (¬ (u ≡ h)) × ((r : ℕ) → Contains base (VarVar h r) → ¬ (u ≡ r))
  right_side u h i u_low (inl less) =
      (u_low, omega (arith, less, u_low), (λ e. omega (arith, e, less)), λ r j e. omega (arith, e, less, (solved.direct h r j).0))
  right_side u h i u_low (inr term) = (
    u_low,
    (term_apart m base solved base_low h term).0,
    (λ e. let (s, xs, j) = subst (HasTerm base) (sym e) term in (reduced.left_open (VarVar u h) i).no_term s xs j),
    λ r j e. (term_apart m base solved base_low h term).1 r j,
  )

  reduced_part_over : IsPartOver m base part.basic
  reduced_part_over = record {
    left_open = λ a i w. reduced.left_open a i;
    equal = λ u h i. let (u_low, right, last) = reduced.equal u h i in right_side u h i u_low right;
    unmarked = reduced.unmarked;
    under = λ a i. numbered_is_under m (m + part.inner) part.basic reduced.numbered (variable_of a) (low a i (variable_of a) (own_variable a));
  }

pub each_over : (cube : Cube) → IsReduced cube → (part : Part) → Contains cube.parts part → IsPartOver (cube.free + cube.outer) cube.basic part.basic
each_over cube reduced part i =
    let m : ℕ = cube.free + cube.outer in
    reduced_part_over m cube.basic part reduced.solved (over_below m cube.basic reduced.well_numbered.basic)
    (All-contains (IsReducedPart m cube.basic) cube.parts part reduced.parts i)
    (over_below (m + part.inner) part.basic (All-contains (PartOver m) cube.parts part reduced.well_numbered.parts i))

pub reduced_is_over : ReducedIsOver
reduced_is_over cube reduced = each_of (λ (part : Part). IsPartOver (cube.free + cube.outer) cube.basic part.basic) cube.parts (each_over cube reduced)
