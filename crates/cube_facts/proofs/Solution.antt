-- Fresh values make all parts fail, so there is a solution.
use Rattle.std.specs.Prelude.{Contains, max}
use Rattle.std.proofs.Common.{ℕ, ◌≡◌, ◌<◌, ◌≤◌, ◌+◌, List, [], ◌∷◌, refl, subst, arith}
use Rattle.std.proofs.lemmas.List.Elements.{All-contains}
use Rattle.classical.proofs.Stable.{some}
use Rattle.tree_model.specs.declared.tree.Symbol.{Symbol}
use Rattle.tree_model.specs.declared.tree.Symbol.TheVariants.{Further}
use Rattle.tree_model.specs.Signatures.{Signature}
use Rattle.tree_model.specs.Valuations.{Valuation}
use Rattle.tree_facts.proofs.Members.{contains_first, contains_later}
use Rattle.flat_form.specs.declared.atom.Flat.{Flat}
use Rattle.flat_form.specs.declared.cube.Part.{Part}
use Rattle.flat_form.specs.declared.cube.Cube.{Cube}
use Rattle.flat_form.specs.Fitting.{BasicFits}
use Rattle.flat_form.specs.Meanings.{BasicHolds, AllFail}
use Rattle.flat_form.specs.Parts.{IsPartOver}
use Rattle.flat_form.specs.Solved.{IsOpen, IsSolved}
use Rattle.flat_form.specs.Reduced.{IsReducedPart, IsReduced}
use Rattle.flat_form.specs.Symbols.{cube_symbols}
use Rattle.flat_form.proofs.Symbols.{IsFit, cube_of_all}
use Rattle.flat_facts.proofs.Follows.{over_below}
use Rattle.cube_facts.specs.Fresh.{HasFreshValues, FreshValuesFail, ReducedHasSolution, PartsOverHaveSolution, SettledHasSolution}
use Rattle.cube_facts.proofs.FreshPart.{IsFresh, all_fresh_fails}
use Rattle.cube_facts.proofs.FreshValues.{atoms_above, parts_above, all_fresh, AllFresh, every_part_fails}
use Rattle.cube_facts.proofs.ReducedOver.{each_over}
use Rattle.cube_facts.proofs.Settle.{some_atom, each_fits, settles_over, settles_back}

-- under any values with fresh symbols
module _ {σ : Signature} (cube : Cube) (d : Valuation σ) (index : ℕ → ℕ) (reduced : IsReduced cube) (holds : BasicHolds d cube.basic)
    (fresh : HasFreshValues cube d index) where
  not_named : (i : ℕ) → i < cube.free + cube.outer → IsOpen cube.basic i → IsFit (λ (s : Symbol) (n : ℕ). ¬ (s ≡ Further (index i))) cube
  not_named i low bare = cube_of_all (λ (s : Symbol) (n : ℕ). ¬ (s ≡ Further (index i))) cube
      (λ p stands e. fresh.unused i p.1 low bare (subst (λ (s : Symbol). Contains (cube_symbols cube) (s, p.1)) e stands))

  is_fresh : (part : Part) → Contains cube.parts part
      → IsFresh (cube.free + cube.outer) cube.basic part.basic d (λ v. (v < cube.free + cube.outer) × IsOpen cube.basic v) index
  is_fresh part stands = record {
    solves = holds;
    low = λ i h. h.0;
    bare = λ i h. h.1;
    apart = λ i j a b e. fresh.own i j a.0 a.1 b.0 b.1 e;
    root = λ i h. fresh.root i h.0 h.1;
    endless = λ i h. fresh.endless i h.0 h.1;
    elsewhere = λ i v h w o other path n e. other (w, o);
    not_in_base = λ i u xs h j. (not_named i h.0 h.1).basic.each u (Further (index i)) xs j refl;
    not_in_part = λ i u xs h j. ((not_named i h.0 h.1).parts.each part stands).each u (Further (index i)) xs j refl;
  }

  fail_in : (parts : List Part) → ((part : Part) → Contains parts part → Contains cube.parts part) → AllFail (cube.free + cube.outer) d parts
  fail_in [] among = tt
  fail_in (part ∷ parts) among =
      let stands : Contains cube.parts part = among part (contains_first part parts) in
      let is : IsReducedPart (cube.free + cube.outer) cube.basic part = All-contains (IsReducedPart (cube.free + cube.outer) cube.basic) cube.parts part reduced.parts stands in
      let (a, i) = some_atom part.basic is.some_atom in (
        all_fresh_fails (cube.free + cube.outer) cube.basic part.basic d index reduced.solved.direct (each_over cube reduced part stands) (is_fresh part stands) a i,
        fail_in parts (λ p j. among p (contains_later part p parts j)),
      )

pub fresh_values_fail : FreshValuesFail
fresh_values_fail σ cube d index reduced holds fresh = fail_in cube d index reduced holds fresh cube.parts (λ p i. i)

-- under fresh values that there are
module _ (σ : Signature) (m k : ℕ) (base : List Flat) (solved : IsSolved base) (fits : BasicFits σ base) (base_above : atoms_above base ≤ k)
    (d : Valuation σ) (is : AllFresh σ k base solved fits base_above d) where
  all_fail : (parts : List Part) → ((part : Part) → Contains parts part → IsPartOver m base part.basic × (¬ (part.basic ≡ []))) → parts_above parts ≤ k
      → AllFail m d parts
  all_fail [] each bound = tt
  all_fail (part ∷ parts) each bound =
      let here = each part (contains_first part parts) in
      let (a, i) = some_atom part.basic here.1 in (
        every_part_fails σ k base solved fits base_above m d is part.basic (omega (arith, bound)) here.0 a i,
        all_fail parts (λ p j. each p (contains_later part p parts j)) (omega (arith, bound)),
      )

pub fail_somewhere : (σ : Signature) (m : ℕ) (base : List Flat) (parts : List Part) → IsSolved base → BasicFits σ base
    → ((part : Part) → Contains parts part → IsPartOver m base part.basic × (¬ (part.basic ≡ [])))
    → (d : Valuation σ) × BasicHolds d base × AllFail m d parts
fail_somewhere σ m base parts solved fits each =
    let k : ℕ = max (atoms_above base) (parts_above parts) in
    let base_above : atoms_above base ≤ k = omega arith in
    let (d, is) = all_fresh σ k base solved fits base_above in
    (d, is.holds, all_fail σ m k base solved fits base_above d is parts each (omega arith))

pub parts_over_solution : PartsOverHaveSolution
parts_over_solution σ m base parts solved fits each =
    let (d, holds, all) = fail_somewhere σ m base parts solved fits
    (λ part i. All-contains (λ (p : Part). IsPartOver m base p.basic × (¬ (p.basic ≡ []))) parts part each i) in
    some d (holds, all)

pub reduced_solution : ReducedHasSolution
reduced_solution σ cube reduced fits =
    let m : ℕ = cube.free + cube.outer in
    let (d, holds, all) = fail_somewhere σ m cube.basic cube.parts reduced.solved fits.basic
    (λ part i. (each_over cube reduced part i, (All-contains (IsReducedPart m cube.basic) cube.parts part reduced.parts i).some_atom)) in
    some d (some d ((λ v w path. refl), holds, all))

pub settled_solution : SettledHasSolution
settled_solution σ m base old new solved over base_fits fits settles some_atoms =
    let (d, holds, all) = fail_somewhere σ m base new solved base_fits
    (λ part i. (settles_over m base solved (over_below m base over) old new settles part i, some_atoms part i)) in
    some d (holds, settles_back σ m base solved (over_below m base over) base_fits d holds old new settles (each_fits σ old fits) all, all)
