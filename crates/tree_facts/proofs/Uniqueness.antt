-- What the equations of a system determine.
use Rattle.std.proofs.Common.{ℕ, ◌≡◌, ◌<◌, List, [], ◌∷◌, length, sym, ◌∙◌, subst, arith, Some, None, inl, inr}
use Rattle.std.specs.Prelude.{Option, slice_index, Contains}
use Rattle.tree_model.specs.declared.tree.Symbol.{Symbol}
use Rattle.tree_model.specs.Signatures.{Signature, Alike}
use Rattle.tree_model.specs.Trees.{at}
use Rattle.tree_model.specs.Valuations.{Valuation}
use Rattle.tree_facts.specs.Equations.{Equation, equals_variable, equals_term, variables_of, IsApplied, Solves, IsParameter}
use Rattle.tree_facts.specs.Laws.{SolutionIsUnique, SolutionIsUniqueBelow}
use Rattle.tree_facts.proofs.Lookup.{equation_of, IsEquationOf, found}
use Rattle.tree_facts.proofs.Equations.{at_past, within_or_past}
use Rattle.tree_facts.proofs.Members.{argument_occurs}

-- Two solutions that are alike on those parameters that are in a set are alike on all of the set, where it has all
-- variables of the system.
module _ {σ : Signature} (system : List Equation) (d e : Valuation σ) (d_solves : Solves d system) (e_solves : Solves e system)
    (direct : (u r w : ℕ) → Contains system (equals_variable u r) → ¬ Contains system (equals_variable r w))
    (Own : ℕ → Type 0) (owns : (q : Equation) → Contains system q → (v : ℕ) → Contains (variables_of q) v → Own v)
    (parameters : (v : ℕ) → Own v → IsParameter system v → Alike (d v) (e v)) where
  abbrev AlikeAt : List ℕ → ℕ → Type 0
  AlikeAt path v = at (d v).graph path ≡ at (e v).graph path

  -- the variables are alike one child down
  abbrev AlikeBelow : List ℕ → Type 0
  AlikeBelow [] = Unit {0}
  AlikeBelow (i ∷ path) = (v : ℕ) → Own v → AlikeAt path v

  applied_alike : (path : List ℕ) → AlikeBelow path → (u : ℕ) (s : Symbol) (xs : List ℕ) → Contains system (equals_term u s xs) → AlikeAt path u
  applied_alike [] below u s xs inside = (d_solves (equals_term u s xs) inside).root ∙ sym (e_solves (equals_term u s xs) inside).root
  applied_alike (i ∷ path) below u s xs inside =
      let left : IsApplied d u s xs = d_solves (equals_term u s xs) inside in
      let right : IsApplied e u s xs = e_solves (equals_term u s xs) inside in
      elim (within_or_past i (length xs)) [
        | inl w ↦ left.child i w path ∙ below (slice_index xs i) (owns (equals_term u s xs) inside (slice_index xs i) (argument_occurs u xs i w))
            ∙ sym (right.child i w path)
        | inr w ↦ at_past (d u).graph s (length xs) i path left.root w ∙ sym (at_past (e u).graph s (length xs) i path right.root w)
      ]

  -- a variable that equals no other one
  plain_alike : (path : List ℕ) → AlikeBelow path → (v : ℕ) → Own v → ((w : ℕ) → ¬ Contains system (equals_variable v w))
      → (o : Option Equation) → IsEquationOf system v o → AlikeAt path v
  plain_alike path below v own plain None found = parameters v own found path
  plain_alike path below v own plain (Some (equals_variable u w)) found =
      absurd (plain w (subst (λ (z : ℕ). Contains system (equals_variable z w)) found.1 found.0))
  plain_alike path below v own plain (Some (equals_term u s xs)) found =
      subst (AlikeAt path) found.1 (applied_alike path below u s xs found.0)

  alike_by : (path : List ℕ) → AlikeBelow path → (v : ℕ) → Own v → (o : Option Equation) → IsEquationOf system v o → AlikeAt path v
  alike_by path below v own None found = parameters v own found path
  alike_by path below v own (Some (equals_variable u r)) is_of =
      let inside : Contains system (equals_variable u r) = is_of.0 in
      let own_r : Own r = owns (equals_variable u r) inside r (argument_occurs u (r ∷ []) 0 (omega arith)) in
      subst (AlikeAt path) is_of.1 (d_solves (equals_variable u r) inside path
      ∙ plain_alike path below r own_r (λ w. direct u r w inside) (equation_of system r) (found system r)
      ∙ sym (e_solves (equals_variable u r) inside path))
  alike_by path below v own (Some (equals_term u s xs)) found =
      subst (AlikeAt path) found.1 (applied_alike path below u s xs found.0)

  alike_at : (path : List ℕ) (v : ℕ) → Own v → AlikeAt path v
  alike_at [] v own = alike_by [] tt v own (equation_of system v) (found system v)
  alike_at (i ∷ path) v own = alike_by (i ∷ path) (alike_at path) v own (equation_of system v) (found system v)

  pub unique_within : (v : ℕ) → Own v → Alike (d v) (e v)
  unique_within v own path = alike_at path v own

pub solution_unique : SolutionIsUnique
solution_unique σ system d e distinct d_solves e_solves parameters v =
    unique_within system d e d_solves e_solves distinct.direct (λ v. Unit {0}) (λ q inside v occurs. tt) (λ v own. parameters v) v tt

pub solution_unique_below : SolutionIsUniqueBelow
solution_unique_below σ n system d e distinct low d_solves e_solves parameters =
    unique_within system d e d_solves e_solves distinct.direct (λ v. v < n) low parameters
