-- A grouped cube whose variables keep their numbers.
use Rattle.std.specs.Prelude.{Contains, All}
use Rattle.std.proofs.Common.{ℕ, ◌≡◌, ◌+◌, ◌-◌, ◌<◌, ◌≤◌, List, [], ◌∷◌, ◌++◌, length, get_or, refl, sym, ap, ◌∙◌, subst, arith, append-nil}
use Rattle.std.proofs.lemmas.List.Elements.{Contains-get_or}
use Rattle.flat_form.specs.declared.atom.Flat.{Flat}
use Rattle.flat_form.specs.declared.cube.Part.{Part}
use Rattle.flat_form.specs.declared.cube.Cube.{Cube}
use Rattle.flat_form.specs.FirstOccurrence.{IsNumbered}
use Rattle.flat_form.specs.Orders.{new_number, IsRenumbering}
use Rattle.flat_form.specs.Solved.{variable_of}
use Rattle.flat_form.specs.Steps.{WithoutIdle, Settles, IsCleared}
use Rattle.cube_facts.proofs.Places.{number_high}
use Rattle.cube_reduction.specs.Fates.{Stay}
use Rattle.cube_reduction.specs.Ordering.{IsOrdered, KeepsNumbers}
use Rattle.cube_reduction.proofs.Unchanged.{same_parts}

-- where no variable is idle, all parts stay
none_goes : (parts : List Part) → WithoutIdle [] parts parts
none_goes [] = WithoutIdle.all_done
none_goes (part ∷ rest) = WithoutIdle.stays part rest rest (λ v i. absurd (omega (arith, i.1))) (none_goes rest)

module _ (mid : Cube) (order : List ℕ) (basic : List Flat) (o : IsOrdered mid [] order basic) (k : KeepsNumbers mid [] order basic) where
  abbrev number : ℕ → ℕ
  number v = new_number mid.free (mid.free + mid.outer) (order ++ []) v

  number_is : (v : ℕ) → number v ≡ v
  number_is v = ap (λ (z : List ℕ). new_number mid.free (mid.free + mid.outer) z v) (append-nil order) ∙ k.number v

  as_many : mid.outer ≡ length order
  as_many =
      let scope = mid.free + mid.outer in
      let same : mid.free + length order + (scope - scope) ≡ scope = sym (number_high mid.free scope order scope (omega arith) (omega arith)) ∙ k.number scope in
      omega (arith, same)

  pub keeps_cleared : (parts : List Part) (s : Stay (mid.free + mid.outer) mid.basic mid.parts parts)
      → IsCleared mid [] s.first (record { free = mid.free; outer = mid.outer; basic = mid.basic; parts = parts })
  keeps_cleared parts s = record {
    busy = s.first;
    order = order;
    second = s.second;
    busy_is = none_goes s.first;
    order_distinct = o.distinct;
    order_is = o.order_is;
    free_is = refl;
    outer_is = as_many;
    basic_is = subst (λ (z : List Flat). IsRenumbering number (λ (atom : Flat). ¬ Contains [] (variable_of atom)) mid.basic z) k.basic_is o.basic_is;
    numbered = subst (λ (z : List Flat). IsNumbered mid.free (mid.free + mid.outer) z) k.basic_is
        (subst (λ (n : ℕ). IsNumbered mid.free (mid.free + n) basic) (sym as_many) o.numbered);
    second_is = subst (λ (z : List Part). Settles (mid.free + mid.outer) mid.basic z s.second) (sym (same_parts number number_is s.first)) s.again;
    parts_are = s.finished;
  }

-- the variables of the order are outer ones
pub order_outer : (mid : Cube) (idle order : List ℕ) (basic : List Flat) (scope : ℕ) → scope ≡ mid.free + mid.outer → IsOrdered mid idle order basic
    → All (λ v. (mid.free ≤ v) × (v < scope)) order
order_outer mid idle order basic scope is o = λ k d w.
    let outer = ((o.order_is (get_or order k d)).0 (Contains-get_or order k d w)).0 in (outer.0, omega (arith, outer.1, is))
