-- Equations that determine variables may be moved into the parts.
use Rattle.std.proofs.Common.{ℕ, ◌<◌, List, sym, ◌∙◌, arith, inl, inr}
use Rattle.std.specs.Prelude.{Contains}
use Rattle.tree_model.specs.Signatures.{Alike}
use Rattle.tree_model.specs.Valuations.{Valuation}
use Rattle.tree_facts.specs.Equations.{equals_variable, equals_term, Solves, HasDistinctLefts}
use Rattle.tree_facts.proofs.Existence.{has_solution}
use Rattle.tree_facts.proofs.Uniqueness.{solution_unique_below}
use Rattle.flat_form.specs.declared.atom.Flat.{Flat}
use Rattle.flat_form.specs.declared.atom.Flat.TheVariants.{VarVar, VarTerm, Finite}
use Rattle.flat_form.specs.Meanings.{AtomHolds, BasicHolds, Extends}
use Rattle.flat_form.specs.Solved.{IsOpen}
use Rattle.flat_facts.specs.PartLaws.{IsLoose, FailsWithMoved, FailsWhenFilled}
use Rattle.flat_facts.proofs.Atoms.{atom_moves}
use Rattle.flat_facts.proofs.Lists.{holds_in, all_hold, equations_of, equation_fits, equations_hold, variable_stands, term_stands, open_parameter, parameter_open, equation_low}
use Rattle.flat_facts.proofs.Renumbered.{split}
use Rattle.flat_facts.proofs.Shapes.{distinct_lefts}

pub loose_lefts : (atoms : List Flat) → IsLoose atoms → HasDistinctLefts (equations_of atoms)
loose_lefts atoms loose = distinct_lefts atoms loose.ascending loose.direct

pub fails_with_moved : FailsWithMoved
fails_with_moved σ m n moved part e is holds fails d like d_holds = fails d
    (solution_unique_below σ n (equations_of moved) d e (loose_lefts moved is.loose) (equation_low n moved is.low)
    (equations_hold d moved d_holds) (equations_hold e moved holds)
    (λ v w parameter. only_low v w (parameter_open moved v parameter)))
  where
    only_low : (v : ℕ) → v < n → IsOpen moved v → Alike (d v) (e v)
    only_low v w bare = elim (split v m) [
      | inl l ↦ like v l
      | inr h ↦ absurd (is.determined v h w bare)
    ]

pub fails_when_filled : FailsWhenFilled
fails_when_filled σ m n moved e is fits =
    let (d, solves, keeps) = has_solution σ (equations_of moved) e (loose_lefts moved is.loose) (equation_fits σ moved fits) in
    let alike : Extends m e d = λ v w. keeps v (open_parameter moved v (is.others v w)) in
    let holds : BasicHolds d moved = all_hold d moved (each d solves) in (
      d,
      alike,
      holds,
      λ part fails y like. fails y
          (λ v w path. like v (omega (arith, w, is.in_order)) path ∙ alike v w path)
          (all_hold y moved (λ a i. atom_moves a d y (λ v o path. sym (like v (is.low a i v o) path)) (holds_in d moved a holds i))),
    )
  where
    each : (d : Valuation σ) → Solves d (equations_of moved) → (a : Flat) → Contains moved a → AtomHolds d a
    each d solves (VarVar u r) i = solves (equals_variable u r) (variable_stands moved u r i)
    each d solves (VarTerm u s xs) i = solves (equals_term u s xs) (term_stands moved u s xs i)
    each d solves (Finite u) i = absurd (is.equations u i)
