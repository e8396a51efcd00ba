-- The steps add no symbols: where each of the raw cube's has a property, so has each of what they make of it.
use Rattle.std.specs.Prelude.{Contains, Some}
use Rattle.std.proofs.Common.{ℕ, ◌+◌, List, [], ◌∷◌, ◌++◌, map, length, sym, subst}
use Rattle.tree_model.specs.declared.tree.Symbol.{Symbol}
use Rattle.tree_model.specs.Signatures.{Signature, IsRoot}
use Rattle.tree_facts.proofs.Members.{contains_first}
use Rattle.tree_facts.proofs.Renumbering.{contains_image}
use Rattle.flat_form.specs.declared.atom.Flat.{Flat}
use Rattle.flat_form.specs.declared.atom.Flat.TheVariants.{VarTerm}
use Rattle.flat_form.specs.declared.cube.Part.{Part}
use Rattle.flat_form.specs.declared.cube.Cube.{Cube}
use Rattle.flat_form.specs.Solved.{variable_of}
use Rattle.flat_form.specs.Added.{IsAdded}
use Rattle.flat_form.specs.Parts.{renumbered}
use Rattle.flat_form.specs.Meanings.{HasNone}
use Rattle.flat_form.specs.Orders.{new_number, renumbered_part}
use Rattle.flat_form.specs.Steps.{Settles, WithoutIdle, Finishes, IsGrouped, IsCleared, Outcome}
use Rattle.flat_form.specs.Symbols.{cube_symbols}
use Rattle.flat_form.proofs.Symbols.{Fit, IsFit, fits, cube_fit, cube_fits, PartsFit, all_of_cube, cube_of_all}
use Rattle.flat_facts.proofs.Existence.{solvable_solution}
use Rattle.flat_facts.proofs.Symbols.{added_fit}
use Rattle.cube_facts.proofs.Fits.{both_fit, renumbering_fits, map_fits, tail_fits, more_fit, none_fit, one_more_fits, moved_parts_fit}
use Rattle.step_facts.specs.Outcomes.{OutcomeSymbols, OutcomeFits}

module _ (Q : Symbol → ℕ → Type 0) where
  pub settled_fit : (m : ℕ) (base : List Flat) (old new : List Part) → Fit Q base → PartsFit Q old → Settles m base old new → PartsFit Q new
  settled_fit m base old new at_base f Settles.all_done = none_fit Q
  settled_fit m base old new at_base f (Settles.dropped part rest out none more) = settled_fit m base rest out at_base (tail_fits Q part rest f) more
  settled_fit m base old new at_base f (Settles.settled part new_part rest out is more) =
      let before = added_fit Q base (base ++ part.basic) is.added (both_fit Q base part.basic at_base (f.each part (contains_first part rest))) is.is_added in
      more_fit Q new_part out
      (record { each = λ u symbol xs i. before.each u symbol xs (is.is_pruned.from (VarTerm u symbol xs) i).0 })
      (settled_fit m base rest out at_base (tail_fits Q part rest f) more)

  pub busy_fit : (idle : List ℕ) (old new : List Part) → PartsFit Q old → WithoutIdle idle old new → PartsFit Q new
  busy_fit idle old new f WithoutIdle.all_done = none_fit Q
  busy_fit idle old new f (WithoutIdle.dropped part v rest out here mentions more) = busy_fit idle rest out (tail_fits Q part rest f) more
  busy_fit idle old new f (WithoutIdle.stays part rest out none more) =
      more_fit Q part out (f.each part (contains_first part rest)) (busy_fit idle rest out (tail_fits Q part rest f) more)

  finish_fit : (m : ℕ) (done parts out : List Part) → PartsFit Q done → PartsFit Q parts → Finishes m done parts out → PartsFit Q out
  finish_fit m done parts out g f (Finishes.all_done all) = g
  finish_fit m done parts out g f (Finishes.twice all part new rest end numbers there more) = finish_fit m all rest end g (tail_fits Q part rest f) more
  finish_fit m done parts out g f (Finishes.new all part it rest end numbers none more) =
      finish_fit m (all ++ it ∷ []) rest end
      (one_more_fits Q all it g
      (renumbering_fits Q (new_number m (m + part.inner) numbers.order) (λ atom. Unit {0}) part.basic it.basic numbers.basic_is (f.each part (contains_first part rest))))
      (tail_fits Q part rest f) more

  module _ (raw mid : Cube) (idle : List ℕ) (f : IsFit Q raw) (g : IsGrouped raw mid idle) where
    form_fit : Fit Q g.form
    form_fit = added_fit Q [] raw.basic g.form f.basic g.solved

    pub rest_fit : Fit Q mid.basic
    rest_fit = renumbering_fits Q _ _ g.form mid.basic g.rest_is form_fit

    moved_fit : Fit Q g.moved
    moved_fit = renumbering_fits Q _ _ g.form g.moved g.moved_is form_fit

    pub parts_fit : PartsFit Q mid.parts
    parts_fit = subst (PartsFit Q) (sym g.parts_are) (record {
      each = λ part i.
          let number : ℕ → ℕ = new_number raw.free (raw.free + raw.outer) (g.kept ++ g.determined) in
          let make : Part → Part = λ part. record { inner = length g.determined + part.inner; basic = g.moved ++ map (renumbered number) part.basic } in
          let (other, stands, same) = contains_image make raw.parts part i in
          subst (λ (z : Part). Fit Q z.basic) same (both_fit Q g.moved (map (renumbered number) other.basic) moved_fit (map_fits Q number other.basic (f.parts.each other stands)));
    })

  cleared_fit : (mid : Cube) (idle : List ℕ) (first : List Part) (cube : Cube) → Fit Q mid.basic → PartsFit Q first → IsCleared mid idle first cube → IsFit Q cube
  cleared_fit mid idle first cube f g c =
      let m = cube.free + cube.outer in
      let number : ℕ → ℕ = new_number mid.free (mid.free + mid.outer) (c.order ++ idle) in
      let busy = busy_fit idle first c.busy g c.busy_is in
      let basic = renumbering_fits Q number (λ atom. ¬ Contains idle (variable_of atom)) mid.basic cube.basic c.basic_is f in
      record {
        basic = basic;
        parts = finish_fit m [] c.second cube.parts (none_fit Q)
            (settled_fit m cube.basic (map (renumbered_part number (length idle)) c.busy) c.second basic (moved_parts_fit Q number (length idle) c.busy busy) c.second_is)
            c.parts_are;
      }

  pub outcome_fit : (raw cube : Cube) → IsFit Q raw → Outcome raw (Some cube) → IsFit Q cube
  outcome_fit raw cube f (Outcome.cleared mid idle first c g settles some clears) =
      cleared_fit mid idle first cube (rest_fit raw mid idle f g)
      (settled_fit (mid.free + mid.outer) mid.basic mid.parts first (rest_fit raw mid idle f g) (parts_fit raw mid idle f g) settles) clears

module _ (σ : Signature) where
  -- atoms with a solved form have a solution
  pub not_none : (base atoms added : List Flat) → Fit (IsRoot σ) atoms → IsAdded base atoms added → ¬ HasNone atoms
  not_none base atoms added f adds = λ none. (solvable_solution σ atoms (fits σ atoms f)).1 adds.solvable (λ found. none σ found.0 found.1)

pub outcome_symbols : OutcomeSymbols
outcome_symbols raw cube outcome =
    let Q : Symbol → ℕ → Type 0 = λ symbol n. Contains (cube_symbols raw) (symbol, n) in
    all_of_cube Q cube (outcome_fit Q raw cube (cube_of_all Q raw (λ p i. i)) outcome)

pub outcome_fits : OutcomeFits
outcome_fits σ raw cube f outcome = cube_fits σ cube (outcome_fit (IsRoot σ) raw cube (cube_fit σ raw f) outcome)
