-- A cube whose determined variables move into its parts: its atoms in the new order, and the parts with those that move.
use Rattle.std.specs.Prelude.{Contains, All, ltb, leb, ◌↔◌, ◌⊎◌}
use Rattle.std.specs.List.{filter}
use Rattle.std.proofs.Common.{ℕ, ◌≡◌, ◌+◌, ◌<◌, ◌≤◌, Bool, true, List, map, get_or, refl, sym, ap, ◌∙◌, subst, arith, inl, inr}
use Rattle.std.proofs.lemmas.Bool.Decides.{nat_tests}
use Rattle.std.proofs.lemmas.List.Elements.{Contains-get_or}
use Rattle.flat_form.specs.declared.atom.Flat.{Flat}
use Rattle.flat_form.specs.declared.cube.Part.{Part}
use Rattle.flat_form.specs.declared.cube.Cube.{Cube}
use Rattle.flat_form.specs.Numbering.{BasicOver}
use Rattle.flat_form.specs.Orders.{new_number, IsRenumbering}
use Rattle.flat_form.specs.Parts.{renumbered}
use Rattle.flat_form.specs.Solved.{variable_of}
use Rattle.flat_form.specs.Steps.{IsOuter}
use Rattle.flat_facts.proofs.Follows.{over_below}
use Rattle.cube_facts.proofs.Places.{side}
use Rattle.cube_facts.proofs.Variables.{own_variable, variable_renumbered}
use Rattle.cube_reduction.specs.Grouping.{number_by, IsRegrouped}
use Rattle.cube_reduction.specs.Numbers.{moved_into}
use Rattle.cube_reduction.proofs.Filtered.{filtered_from, filtered_all, filtered_ascends}

-- of the atoms in their new order, those that pass a test of their variables
module _ (f : ℕ → ℕ) (P : Flat → Type 0) (old all : List Flat) (is : IsRenumbering f P old all) where
  pub some_renumbered : (test : Flat → Bool) (Q : Flat → Type 0) → ((other : Flat) → Contains old other → P other × (test (renumbered f other) ≡ true) ↔ Q other)
      → IsRenumbering f Q old (filter test all)
  some_renumbered test Q same = record {
    ascending = filtered_ascends test all is.ascending;
    is = λ atom. (
      λ i.
          let (there, passes) = filtered_from test all atom i in
          let (other, stands, p, e) = (is.is atom).0 there in
          (other, stands, (same other stands).0 (p, ap test (sym e) ∙ passes), e),
      λ (other, stands, q, e).
          let (p, passes) = (same other stands).1 q in
          filtered_all test all atom ((is.is atom).1 (other, stands, p, e)) (ap test e ∙ passes),
    );
  }

-- the outer variables in a new order
module _ (raw : Cube) (form : List Flat) (order : List ℕ) (kept more : ℕ) (over : BasicOver (raw.free + raw.outer) form)
    (full : (v : ℕ) → Contains order v ↔ IsOuter raw.free raw.outer v)
    (all : List Flat) (is : IsRenumbering (number_by raw order) (λ atom. (variable_of atom < raw.free) ⊎ Contains order (variable_of atom)) form all) where
  abbrev number : ℕ → ℕ
  number v = new_number raw.free (raw.free + raw.outer) order v

  listed : (other : Flat) → Contains form other → (variable_of other < raw.free) ⊎ Contains order (variable_of other)
  listed other i = elim (side (variable_of other) raw.free) [
    | inl w ↦ inl w
    | inr le ↦ inr ((full (variable_of other)).1 (le, over_below (raw.free + raw.outer) form over other i (variable_of other) (own_variable other)))
  ]

  rest_renumbered : (m : ℕ) → m ≡ raw.free + kept
      → IsRenumbering (number_by raw order) (λ atom. number (variable_of atom) < raw.free + kept) form (filter (λ atom. ltb (variable_of atom) m) all)
  rest_renumbered m m_is = some_renumbered (number_by raw order) _ form all is (λ atom. ltb (variable_of atom) m) _ (λ other i. (
    λ (p, passes). let e = variable_renumbered (number_by raw order) other in let t : ltb (variable_of (renumbered (number_by raw order) other)) m ≡ true = passes in
        let low : variable_of (renumbered (number_by raw order) other) < m = grind (arith, nat_tests) in omega (arith, low, e, m_is),
    λ low. let e = variable_renumbered (number_by raw order) other in
        let below : variable_of (renumbered (number_by raw order) other) < m = omega (arith, low, e, m_is) in (listed other i, grind (arith, nat_tests)),
  ))

  moved_renumbered : (m : ℕ) → m ≡ raw.free + kept
      → IsRenumbering (number_by raw order) (λ atom. raw.free + kept ≤ number (variable_of atom)) form (filter (λ atom. leb m (variable_of atom)) all)
  moved_renumbered m m_is = some_renumbered (number_by raw order) _ form all is (λ atom. leb m (variable_of atom)) _ (λ other i. (
    λ (p, passes). let e = variable_renumbered (number_by raw order) other in let t : leb m (variable_of (renumbered (number_by raw order) other)) ≡ true = passes in
        let high : m ≤ variable_of (renumbered (number_by raw order) other) = grind (arith, nat_tests) in omega (arith, high, e, m_is),
    λ high. let e = variable_renumbered (number_by raw order) other in
        let above : m ≤ variable_of (renumbered (number_by raw order) other) = omega (arith, high, e, m_is) in (listed other i, grind (arith, nat_tests)),
  ))

  pub regrouped_is : (m : ℕ) (basic moved : List Flat) (parts : List Part) (f : ℕ → ℕ) → m ≡ raw.free + kept → f ≡ number_by raw order
      → basic ≡ filter (λ atom. ltb (variable_of atom) m) all → moved ≡ filter (λ atom. leb m (variable_of atom)) all
      → parts ≡ map (moved_into f more moved) raw.parts
      → IsRegrouped raw form order kept more (record { free = raw.free; outer = kept; basic = basic; parts = parts })
  regrouped_is m basic moved parts f m_is f_is basic_is moved_is parts_are = record {
    moved = moved;
    free_is = refl;
    outer_is = refl;
    rest_is = subst (λ (z : List Flat). IsRenumbering (number_by raw order) (λ atom. number (variable_of atom) < raw.free + kept) form z) (sym basic_is) (rest_renumbered m m_is);
    moved_is = subst (λ (z : List Flat). IsRenumbering (number_by raw order) (λ atom. raw.free + kept ≤ number (variable_of atom)) form z) (sym moved_is) (moved_renumbered m m_is);
    parts_are = subst (λ (z : ℕ → ℕ). parts ≡ map (moved_into z more moved) raw.parts) f_is parts_are;
  }

  -- the same of lists that were lent
  pub regrouped_lent : (m : ℕ) (lent more_lent basic moved : List Flat) (lent_parts parts : List Part) (f : ℕ → ℕ) → m ≡ raw.free + kept → lent ≡ all → more_lent ≡ all
      → lent_parts ≡ raw.parts → f ≡ number_by raw order → basic ≡ filter (λ atom. ltb (variable_of atom) m) lent → moved ≡ filter (λ atom. leb m (variable_of atom)) more_lent
      → parts ≡ map (moved_into f more moved) lent_parts → IsRegrouped raw form order kept more (record { free = raw.free; outer = kept; basic = basic; parts = parts })
  regrouped_lent m lent more_lent basic moved lent_parts parts f m_is lent_is more_is lent_parts_is f_is basic_is moved_is parts_are =
      regrouped_is m basic moved parts f m_is f_is (basic_is ∙ ap (filter (λ atom. ltb (variable_of atom) m)) lent_is) (moved_is ∙ ap (filter (λ atom. leb m (variable_of atom))) more_is)
      (parts_are ∙ ap (map (moved_into f more moved)) lent_parts_is)

-- what an order has is within its bounds
pub order_within : (order : List ℕ) (free outer scope : ℕ) → ((v : ℕ) → Contains order v ↔ IsOuter free outer v) → scope ≡ free + outer → All (λ v. (free ≤ v) × (v < scope)) order
order_within order free outer scope full is = λ k d w.
    let (a, b) = (full (get_or order k d)).0 (Contains-get_or order k d w) in (a, omega (arith, b, is))
