-- The steps come to one outcome only.
use Rattle.std.specs.Prelude.{Contains, Option, Some}
use Rattle.std.proofs.Common.{ℕ, ◌≡◌, ◌+◌, List, [], ◌++◌, map, length, refl, sym, ap, ◌∙◌, subst, arith}
use Rattle.tree_model.specs.Signatures.{Signature, IsRoot}
use Rattle.flat_form.specs.declared.atom.Flat.{Flat}
use Rattle.flat_form.specs.declared.cube.Part.{Part}
use Rattle.flat_form.specs.declared.cube.Cube.{Cube}
use Rattle.flat_form.specs.Solved.{variable_of}
use Rattle.flat_form.specs.Fitting.{CubeFits}
use Rattle.flat_form.specs.Meanings.{HasNone}
use Rattle.flat_form.specs.Orders.{new_number, renumbered_part, IsRenumbering}
use Rattle.flat_form.specs.Steps.{Settles, WithoutIdle, Finishes, IsImplied, IsGrouped, IsCleared, Outcome, unsolvable, implied, cleared}
use Rattle.flat_form.proofs.Symbols.{Fit, PartsFit, fit, cube_fit}
use Rattle.cube_facts.proofs.Fits.{moved_parts_fit, renumbering_fits}
use Rattle.step_facts.specs.OneOutcome.{OutcomeIsOne}
use Rattle.step_facts.proofs.StepFits.{rest_fit, parts_fit, settled_fit, busy_fit, not_none}
use Rattle.step_facts.proofs.OneNumbering.{outer_order_is_one, one_renumbering}
use Rattle.step_facts.proofs.OneGrouping.{grouped_is_one, same_cube}
use Rattle.step_facts.proofs.OneSettling.{settles_one, busy_one, finish_one, implied_is_empty}

-- what an order, the busy parts and a base make of the cube
record Ends (mid : Cube) (idle order : List ℕ) (busy : List Part) (cube : Cube) : Type 0 where
  second : List Part
  free_is : cube.free ≡ mid.free
  outer_is : cube.outer ≡ length order
  basic_is : IsRenumbering (new_number mid.free (mid.free + mid.outer) (order ++ idle)) (λ atom. ¬ Contains idle (variable_of atom)) mid.basic cube.basic
  second_is : Settles (cube.free + cube.outer) cube.basic
      (map (renumbered_part (new_number mid.free (mid.free + mid.outer) (order ++ idle)) (length idle)) busy) second
  parts_are : Finishes (cube.free + cube.outer) [] second cube.parts

ends : (mid : Cube) (idle : List ℕ) (first : List Part) (cube : Cube) (a : IsCleared mid idle first cube) → Ends mid idle a.order a.busy cube
ends mid idle first cube a = record {
  second = a.second;
  free_is = a.free_is;
  outer_is = a.outer_is;
  basic_is = a.basic_is;
  second_is = a.second_is;
  parts_are = a.parts_are;
}

module _ (σ : Signature) where
  -- the second settling and the last numbers
  one_end : (m : ℕ) (base : List Flat) (parts one_second other_second one other : List Part) → Fit (IsRoot σ) base → PartsFit (IsRoot σ) parts
      → Settles m base parts one_second → Settles m base parts other_second → Finishes m [] one_second one → Finishes m [] other_second other → one ≡ other
  one_end m base parts one_second other_second one other f g a b c d =
      let same : one_second ≡ other_second = settles_one σ m base f parts one_second other_second g a b in
      finish_one m other_second [] one other (subst (λ (ps : List Part). Finishes m [] ps one) same c) d

  moved_end : (m n : ℕ) (base also : List Flat) (parts second out : List Part) → m ≡ n → base ≡ also → Settles m base parts second → Settles n also parts second
  moved_end m n base also parts second out p q a =
      subst (λ (k : ℕ). Settles k also parts second) p (subst (λ (atoms : List Flat). Settles m atoms parts second) q a)

  one_ending : (mid : Cube) (idle order : List ℕ) (busy : List Part) (one other : Cube) → Fit (IsRoot σ) mid.basic → PartsFit (IsRoot σ) busy
      → Ends mid idle order busy one → Ends mid idle order busy other → one ≡ other
  one_ending mid idle order busy one other f g a b =
      let number : ℕ → ℕ = new_number mid.free (mid.free + mid.outer) (order ++ idle) in
      let free : one.free ≡ other.free = a.free_is ∙ sym b.free_is in
      let outer : one.outer ≡ other.outer = a.outer_is ∙ sym b.outer_is in
      let basic : one.basic ≡ other.basic =
      one_renumbering number (λ atom. ¬ Contains idle (variable_of atom)) mid.basic one.basic other.basic a.basic_is b.basic_is in
      let m : one.free + one.outer ≡ other.free + other.outer = omega (arith, free, outer) in
      same_cube one other free outer basic
      (one_end (other.free + other.outer) other.basic (map (renumbered_part number (length idle)) busy) a.second b.second one.parts other.parts
      (renumbering_fits (IsRoot σ) number (λ atom. ¬ Contains idle (variable_of atom)) mid.basic other.basic b.basic_is f)
      (moved_parts_fit (IsRoot σ) number (length idle) busy g)
      (moved_end (one.free + one.outer) (other.free + other.outer) one.basic other.basic (map (renumbered_part number (length idle)) busy) a.second one.parts m basic a.second_is)
      b.second_is
      (subst (λ (k : ℕ). Finishes k [] a.second one.parts) m a.parts_are)
      b.parts_are)

  one_cleared : (mid : Cube) (idle : List ℕ) (first second : List Part) (one other : Cube) → Fit (IsRoot σ) mid.basic → PartsFit (IsRoot σ) mid.parts
      → Settles (mid.free + mid.outer) mid.basic mid.parts first → Settles (mid.free + mid.outer) mid.basic mid.parts second
      → IsCleared mid idle first one → IsCleared mid idle second other → one ≡ other
  one_cleared mid idle first second one other f g a b c d =
      let m = mid.free + mid.outer in
      let same : first ≡ second = settles_one σ m mid.basic f mid.parts first second g a b in
      let order : c.order ≡ d.order = outer_order_is_one mid idle first second one other c d in
      let busy : c.busy ≡ d.busy = busy_one idle second c.busy d.busy (subst (λ (ps : List Part). WithoutIdle idle ps c.busy) same c.busy_is) d.busy_is in
      one_ending mid idle d.order d.busy one other f
      (busy_fit (IsRoot σ) idle second d.busy (settled_fit (IsRoot σ) m mid.basic mid.parts second f g b) d.busy_is)
      (subst (λ (ps : List Part). Ends mid idle d.order ps one) busy (subst (λ (xs : List ℕ). Ends mid idle xs c.busy one) order (ends mid idle first one c)))
      (ends mid idle second other d)

  module _ (raw : Cube) (fits : CubeFits σ raw) where
    grouped_not_none : (mid : Cube) (idle : List ℕ) → IsGrouped raw mid idle → ¬ HasNone raw.basic
    grouped_not_none mid idle g = not_none σ [] raw.basic g.form (fit σ raw.basic fits.basic) g.solved

    -- where a part is implied, no cube is left
    implied_not_cleared : (mid other : Cube) (idle also : List ℕ) (part : Part) (first : List Part) → IsGrouped raw mid idle → IsGrouped raw other also
        → Contains mid.parts part → IsImplied (mid.free + mid.outer) mid.basic part
        → Settles (other.free + other.outer) other.basic other.parts first → ¬ ((part : Part) → Contains first part → ¬ (part.basic ≡ []))
    implied_not_cleared mid other idle also part first a b inside is settles = λ none. do
      let same = (grouped_is_one raw mid other idle also a b).0
      let there : Contains other.parts part = subst (λ (z : Cube). Contains z.parts part) same inside
      let now : IsImplied (other.free + other.outer) other.basic part = subst (λ (z : Cube). IsImplied (z.free + z.outer) z.basic part) same is
      let (it, stands, empty) = implied_is_empty σ (other.free + other.outer) other.basic (rest_fit (IsRoot σ) raw other also (cube_fit σ raw fits) b) other.parts first part
          (parts_fit (IsRoot σ) raw other also (cube_fit σ raw fits) b) there now settles
      none it stands empty

    both_cleared : (mid other : Cube) (idle also : List ℕ) (first second : List Part) (one two : Cube) → IsGrouped raw mid idle → IsGrouped raw other also
        → Settles (mid.free + mid.outer) mid.basic mid.parts first → Settles (other.free + other.outer) other.basic other.parts second
        → IsCleared mid idle first one → IsCleared other also second two → one ≡ two
    both_cleared mid other idle also first second one two a b c d e f =
        let same = grouped_is_one raw mid other idle also a b in
        one_cleared other also first second one two (rest_fit (IsRoot σ) raw other also (cube_fit σ raw fits) b) (parts_fit (IsRoot σ) raw other also (cube_fit σ raw fits) b)
        (subst (λ (z : Cube). Settles (z.free + z.outer) z.basic z.parts first) same.0 c) d
        (subst (λ (z : Cube). IsCleared z also first one) same.0 (subst (λ (xs : List ℕ). IsCleared mid xs first one) same.1 e)) f

    one_of : (one other : Option Cube) → Outcome raw one → Outcome raw other → one ≡ other
    one_of one other (unsolvable none) (unsolvable also) = refl
    one_of one other (unsolvable none) (implied mid idle part g inside is) = refl
    one_of one other (unsolvable none) (cleared mid idle first cube g settles some c) = absurd (grouped_not_none mid idle g none)
    one_of one other (implied mid idle part g inside is) (unsolvable none) = refl
    one_of one other (implied mid idle part g inside is) (implied mid2 idle2 part2 g2 inside2 is2) = refl
    one_of one other (implied mid idle part g inside is) (cleared mid2 idle2 first cube g2 settles some c) =
        absurd (implied_not_cleared mid mid2 idle idle2 part first g g2 inside is settles some)
    one_of one other (cleared mid idle first cube g settles some c) (unsolvable none) = absurd (grouped_not_none mid idle g none)
    one_of one other (cleared mid2 idle2 first cube g2 settles some c) (implied mid idle part g inside is) =
        absurd (implied_not_cleared mid mid2 idle idle2 part first g g2 inside is settles some)
    one_of one other (cleared mid idle first cube g settles some c) (cleared mid2 idle2 second cube2 g2 settles2 some2 c2) =
        ap (λ (z : Cube). Some z) (both_cleared mid mid2 idle idle2 first second cube cube2 g g2 settles settles2 c c2)

pub outcome_is_one : OutcomeIsOne
outcome_is_one σ raw one other fits a b = one_of σ raw fits one other a b
