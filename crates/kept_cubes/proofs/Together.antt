-- When a cube can hold beside atoms.
use Rattle.std.specs.Prelude.{Contains}
use Rattle.std.proofs.Common.{ℕ, ◌≡◌, ◌+◌, ◌<◌, ◌≤◌, List, [], ◌∷◌, ◌++◌, refl, subst, arith, inl, inr, ◌⊎◌}
use Rattle.std.proofs.lemmas.List.Elements.{All-contains}
use Rattle.classical.proofs.Stable.{some}
use Rattle.tree_model.specs.Signatures.{Signature}
use Rattle.tree_model.specs.Valuations.{Valuation}
use Rattle.tree_facts.proofs.Members.{contains_cases}
use Rattle.flat_form.specs.declared.atom.Flat.{Flat}
use Rattle.flat_form.specs.declared.atom.Flat.TheVariants.{VarVar, VarTerm, Finite}
use Rattle.flat_form.specs.declared.cube.Part.{Part}
use Rattle.flat_form.specs.declared.cube.Cube.{Cube}
use Rattle.flat_form.specs.Added.{IsAdded, IsSolvedForm}
use Rattle.flat_form.specs.Fitting.{AtomFits, BasicFits, CubeFits}
use Rattle.flat_form.specs.Meanings.{BasicHolds, PartFails, AllFail}
use Rattle.flat_form.specs.Numbering.{BasicOver}
use Rattle.flat_form.specs.Parts.{Under, top, below, IsKept, IsPruned}
use Rattle.flat_form.specs.Solved.{variable_of}
use Rattle.flat_facts.proofs.Follows.{over_below, added_fits}
use Rattle.flat_facts.proofs.Shapes.{solved_form_solved}
use Rattle.flat_facts.proofs.Solutions.{solved_form_means}
use Rattle.cube_facts.proofs.Settle.{all_of, settled_fails}
use Rattle.cube_facts.proofs.Solution.{settled_solution}
use Rattle.node_facts.specs.Nested.{beside}
use Rattle.kept_cubes.specs.Together.{NothingBelow, ClashHoldsNowhere, ImpliedHoldsNowhere, SettledCanHold}

-- what the first m variables reach, where none of them has a term
module _ (m : ℕ) (atoms : List Flat) (above : (atom : Flat) → Contains atoms atom → m ≤ variable_of atom) where
  under_is_low : {v : ℕ} → Under m atoms v → v < m
  under_is_low (top low) = low
  under_is_low (below {u} symbol xs under i k w) = absurd (omega (arith, under_is_low under, above (VarTerm u symbol xs) i))

  kept_is_low : (a : Flat) → IsKept m atoms a → variable_of a < m
  kept_is_low (VarVar u v) kept = kept
  kept_is_low (VarTerm u symbol xs) kept = under_is_low kept
  kept_is_low (Finite u) kept = under_is_low kept

pub nothing_below : NothingBelow
nothing_below m atoms above = record {
  ascending = tt;
  from = λ a i. absurd (omega (arith, i.1));
  all = λ a i kept. absurd (omega (arith, kept_is_low m atoms above a kept, above a i));
}

pub clash_nowhere : ClashHoldsNowhere
clash_nowhere C c none σ e fits = λ holds. holds (λ found. none σ found.0 found.1.1)

-- each of the parts fails
pub one_fails : {σ : Signature} (n : ℕ) (e : Valuation σ) (parts : List Part) (part : Part) → AllFail n e parts → Contains parts part → PartFails n e part
one_fails n e [] part all i = absurd (omega (arith, i.1))
one_fails n e (first ∷ parts) part all i = elim (contains_cases first part parts i) [
  | inl is ↦ subst (λ (p : Part). PartFails n e p) is all.0
  | inr more ↦ one_fails n e parts part all.1 more
]

module _ (C form : List Flat) (c : Cube) (is_form : IsSolvedForm (C ++ c.basic) form) (over : BasicOver (c.free + c.outer) form)
    (σ : Signature) (fits : CubeFits σ (beside C c)) where
  form_fits : BasicFits σ form
  form_fits = added_fits σ [] (C ++ c.basic) form fits.basic is_form

  pub implied_fails : (part : Part) → Contains c.parts part → (added : List Flat) → IsAdded form (form ++ part.basic) added
      → IsPruned (c.free + c.outer) added [] → (d : Valuation σ) → BasicHolds d (C ++ c.basic) → ¬ PartFails (c.free + c.outer) d part
  implied_fails part i added adds cut d holds = λ fails.
      settled_fails (c.free + c.outer) form part.basic (solved_form_solved (C ++ c.basic) form is_form) (over_below (c.free + c.outer) form over) σ d
      ((solved_form_means σ (C ++ c.basic) form d is_form).1 holds)
      (all_of (AtomFits σ) form part.basic form_fits (All-contains (λ (p : Part). BasicFits σ p.basic) c.parts part fits.parts i))
      added [] adds cut fails d (λ v w path. refl) tt

pub implied_nowhere : ImpliedHoldsNowhere
implied_nowhere C form c part is_form over i (added, adds, cut) σ e fits = λ holds. holds (λ found.
    implied_fails C form c is_form over σ fits part i added adds cut found.0 found.1.1 (one_fails (c.free + c.outer) found.0 c.parts part found.1.2 i))

pub settled_can_hold : SettledCanHold
settled_can_hold C form c parts is_form over settles some_atoms σ fits = λ none.
    settled_solution σ (c.free + c.outer) form c.parts parts (solved_form_solved (C ++ c.basic) form is_form) over (form_fits C form c is_form over σ fits) fits.parts settles
    some_atoms (λ found.
    none (found.0, some found.0 ((λ v w path. refl), (solved_form_means σ (C ++ c.basic) form found.0 is_form).0 found.1.0, found.1.1)))
