-- The order in which a cube's variables are grouped, and that the cube is then grouped.
use Rattle.std.specs.Prelude.{Contains, All, ◌↔◌}
use Rattle.std.specs.List.Sorted.{IsStrictlyIncreasing}
use Rattle.std.proofs.Common.{ℕ, ◌≡◌, ◌+◌, ◌<◌, ◌≤◌, List, [], ◌++◌, map, get_or, length, sym, ap, ◌∙◌, subst, arith, inl, inr}
use Rattle.std.proofs.lemmas.List.Elements.{Contains-append_left, Contains-append_right, Contains-append_cases, Contains-get_or}
use Rattle.lists.specs.Distinct.{IsDistinct}
use Rattle.flat_form.specs.declared.atom.Flat.{Flat}
use Rattle.flat_form.specs.declared.cube.Cube.{Cube}
use Rattle.flat_form.specs.Added.{IsSolvedForm}
use Rattle.flat_form.specs.Numbering.{BasicOver}
use Rattle.flat_form.specs.Orders.{new_number, IsRenumbering}
use Rattle.flat_form.specs.Solved.{variable_of}
use Rattle.flat_form.specs.Steps.{IsOuter, IsSplit, IsGrouped}
use Rattle.flat_facts.proofs.Follows.{over_below, added_over}
use Rattle.cube_facts.proofs.Variables.{own_variable, stands_tells}
use Rattle.step_facts.proofs.NewNumbers.{distinct_increasing, distinct_both, front_number, number_behind}
use Rattle.cube_reduction.specs.Grouping.{number_by, IsRegrouped}
use Rattle.cube_reduction.proofs.Regrouped.{order_within}

module _ (raw : Cube) (form : List Flat) (needed idle determined kept : List ℕ) (split : IsSplit raw.free raw.outer form needed idle determined)
    (up : IsStrictlyIncreasing kept)
    (kept_is : (v : ℕ) → Contains kept v ↔ ((raw.free ≤ v) × (v < raw.free + raw.outer) × (¬ Contains determined v))) where
  pub order_distinct : IsDistinct (kept ++ determined)
  order_distinct = distinct_both kept determined (distinct_increasing kept up) (distinct_increasing determined split.determined_ascending) (λ v i. ((kept_is v).0 i).2)

  pub order_is : (v : ℕ) → Contains (kept ++ determined) v ↔ IsOuter raw.free raw.outer v
  order_is v = (
    λ i. elim (Contains-append_cases kept determined v i) [
      | inl k ↦ let (a, b, n) = (kept_is v).0 k in (a, b)
      | inr d ↦ ((split.determined_is v).0 d).0
    ],
    λ (a, b). elim (stands_tells determined v) [
      | inl d ↦ Contains-append_right kept determined v d.1
      | inr n ↦ Contains-append_left kept determined v ((kept_is v).1 (a, b, n.1))
    ],
  )

  covers : (v : ℕ) → raw.free ≤ v → v < raw.free + raw.outer → ¬ Contains determined v → Contains kept v
  covers v a b n = (kept_is v).1 (a, b, n)

  abbrev number : ℕ → ℕ
  number v = new_number raw.free (raw.free + raw.outer) (kept ++ determined) v

  stays : (v : ℕ) → v < raw.free + raw.outer → (number v < raw.free + length kept) ↔ (¬ Contains determined v)
  stays v low = (
    λ w d. let (a, b) = ((split.determined_is v).0 d).0 in
        let high = number_behind raw.free (raw.free + raw.outer) kept determined (omega arith) covers v a b (λ k. ((kept_is v).0 k).2 d) in
        omega (arith, high, w),
    λ n. front_number raw.free (raw.free + raw.outer) kept determined (omega arith) covers v low n,
  )

  moves : (v : ℕ) → v < raw.free + raw.outer → (raw.free + length kept ≤ number v) ↔ Contains determined v
  moves v low = (
    λ le. elim (stands_tells determined v) [ inl d ↦ d.1 | inr n ↦ let w = (stays v low).1 n.1 in absurd (omega (arith, w, le)) ],
    λ d. let (a, b) = ((split.determined_is v).0 d).0 in
        number_behind raw.free (raw.free + raw.outer) kept determined (omega arith) covers v a b (λ k. ((kept_is v).0 k).2 d),
  )

  -- the same atoms by another property that says the same of each
  same_taken : (P Q : Flat → Type 0) (new : List Flat) → ((atom : Flat) → Contains form atom → P atom ↔ Q atom)
      → IsRenumbering (number_by raw (kept ++ determined)) P form new → IsRenumbering (number_by raw (kept ++ determined)) Q form new
  same_taken P Q new same is = record {
    ascending = is.ascending;
    is = λ atom. (
      λ i. let (other, stands, p, e) = (is.is atom).0 i in (other, stands, (same other stands).0 p, e),
      λ (other, stands, q, e). (is.is atom).1 (other, stands, (same other stands).1 q, e),
    );
  }

  module _ (over : BasicOver (raw.free + raw.outer) raw.basic) (solved : IsSolvedForm raw.basic form) where
    pub form_over : BasicOver (raw.free + raw.outer) form
    form_over = added_over (raw.free + raw.outer) [] raw.basic form over solved

    low : (atom : Flat) → Contains form atom → variable_of atom < raw.free + raw.outer
    low atom i = over_below (raw.free + raw.outer) form form_over atom i (variable_of atom) (own_variable atom)

    pub grouped_is : (mid : Cube) (new_idle : List ℕ) → IsRegrouped raw form (kept ++ determined) (length kept) (length determined) mid
        → new_idle ≡ map (number_by raw (kept ++ determined)) idle → IsGrouped raw mid new_idle
    grouped_is mid new_idle is idle_are = record {
      form = form;
      needed = needed;
      idle_before = idle;
      determined = determined;
      kept = kept;
      moved = is.moved;
      solved = solved;
      split = split;
      kept_ascending = up;
      kept_is = λ v. (λ k. let (a, b, n) = (kept_is v).0 k in ((a, b), n), λ ((a, b), n). (kept_is v).1 (a, b, n));
      free_is = is.free_is;
      outer_is = is.outer_is;
      idle_are = idle_are;
      rest_is = same_taken _ _ mid.basic (λ atom i. stays (variable_of atom) (low atom i)) is.rest_is;
      moved_is = same_taken _ _ is.moved (λ atom i. moves (variable_of atom) (low atom i)) is.moved_is;
      parts_are = is.parts_are;
    }

-- what was lent and copied on the way
pub order_here : (slice after order kept lent determined : List ℕ) → slice ≡ after → after ≡ order ++ lent → order ≡ kept → lent ≡ determined → slice ≡ kept ++ determined
order_here slice after order kept lent determined a b c d = cc

module _ (raw : Cube) (form : List Flat) (needed idle determined kept lent : List ℕ) (scope : ℕ) (split : IsSplit raw.free raw.outer form needed idle determined)
    (scope_is : scope ≡ raw.free + raw.outer) (lent_is : lent ≡ determined) where
  pub lent_low : All (λ v. v < scope) lent
  lent_low = λ k d w.
      let inside = subst (λ (z : List ℕ). Contains z (get_or lent k d)) lent_is (Contains-get_or lent k d w) in
      let (a, b) = ((split.determined_is (get_or lent k d)).0 inside).0 in
      omega (arith, b, scope_is)

  module _ (up : IsStrictlyIncreasing kept) (is : (v : ℕ) → Contains kept v ↔ ((raw.free ≤ v) × (v < scope) × (¬ Contains lent v))) where
    kept_here : (v : ℕ) → Contains kept v ↔ ((raw.free ≤ v) × (v < raw.free + raw.outer) × (¬ Contains determined v))
    kept_here v = (
      λ i. let (a, b, n) = (is v).0 i in (a, omega (arith, b, scope_is), λ d. n (subst (λ (z : List ℕ). Contains z v) (sym lent_is) d)),
      λ (a, b, n). (is v).1 (a, omega (arith, b, scope_is), λ d. n (subst (λ (z : List ℕ). Contains z v) lent_is d)),
    )

    pub lent_distinct : (order : List ℕ) → order ≡ kept ++ determined → IsDistinct order
    lent_distinct order e = subst (λ (z : List ℕ). IsDistinct z) (sym e) (order_distinct raw form needed idle determined kept split up kept_here)

    pub lent_order : (order : List ℕ) → order ≡ kept ++ determined → (v : ℕ) → Contains order v ↔ IsOuter raw.free raw.outer v
    lent_order order e = subst (λ (z : List ℕ). (v : ℕ) → Contains z v ↔ IsOuter raw.free raw.outer v) (sym e) (order_is raw form needed idle determined kept split up kept_here)

    pub lent_within : (order : List ℕ) → order ≡ kept ++ determined → All (λ v. (raw.free ≤ v) × (v < scope)) order
    lent_within order e = order_within order raw.free raw.outer scope (lent_order order e) scope_is

    pub grouped_lent : BasicOver (raw.free + raw.outer) raw.basic → IsSolvedForm raw.basic form → (mid : Cube) (new_idle order again : List ℕ) (kept_size more : ℕ) (lent_idle : List ℕ)
        (f : ℕ → ℕ) → order ≡ kept ++ determined → again ≡ kept ++ determined → kept_size ≡ length kept → more ≡ length lent → lent_idle ≡ idle
        → f ≡ new_number raw.free scope order → IsRegrouped raw form again kept_size more mid → new_idle ≡ map f lent_idle → IsGrouped raw mid new_idle
    grouped_lent over solved mid new_idle order again kept_size more lent_idle f order_e again_e size_e more_e idle_e f_e regrouped idle_are =
        let one : IsRegrouped raw form (kept ++ determined) kept_size more mid = subst (λ (z : List ℕ). IsRegrouped raw form z kept_size more mid) again_e regrouped in
        let two : IsRegrouped raw form (kept ++ determined) (length kept) more mid = subst (λ (z : ℕ). IsRegrouped raw form (kept ++ determined) z more mid) size_e one in
        let three : IsRegrouped raw form (kept ++ determined) (length kept) (length determined) mid =
        subst (λ (z : ℕ). IsRegrouped raw form (kept ++ determined) (length kept) z mid) (more_e ∙ ap length lent_is) two in
        let by_scope : f ≡ number_by raw (kept ++ determined) =
        f_e ∙ ap (λ (z : ℕ). new_number raw.free z order) scope_is ∙ ap (λ (z : List ℕ). number_by raw z) order_e in
        grouped_is raw form needed idle determined kept split up kept_here over solved mid new_idle three
        (idle_are ∙ ap (map f) idle_e ∙ ap (λ (g : ℕ → ℕ). map g idle) by_scope)
