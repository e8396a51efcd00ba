-- The variables of a grouped cube in their last order: what the free ones reach, the new numbers, and parts under them.
use Rattle.std.specs.Prelude.{Contains, slice_index, nat_eq, All, ◌↔◌}
use Rattle.std.proofs.Common.{ℕ, ◌≡◌, ◌+◌, ◌-◌, ◌<◌, ◌≤◌, true, false, List, [], ◌∷◌, ◌++◌, map, length, refl, sym, ap, ◌∙◌, subst, arith, inl, inr, ◌⊎◌}
use Rattle.std.proofs.lemmas.Bool.Decides.{nat_tests}
use Rattle.std.proofs.lemmas.List.{length-map}
use Rattle.std.proofs.lemmas.List.Elements.{All-contains, Contains-get_or, Contains-append_cases}
use Rattle.lists.specs.Distinct.{IsDistinct}
use Rattle.tree_facts.proofs.Members.{contains_first, contains_later, contains_cases, argument_occurs}
use Rattle.tree_facts.proofs.Renumbering.{index-map, contains_map, contains_image}
use Rattle.flat_form.specs.declared.atom.Flat.{Flat}
use Rattle.flat_form.specs.declared.atom.Flat.TheVariants.{VarVar, VarTerm, Finite}
use Rattle.flat_form.specs.declared.cube.Part.{Part}
use Rattle.flat_form.specs.declared.cube.Cube.{Cube}
use Rattle.flat_form.specs.Numbering.{AtomOver, BasicOver, PartOver, IsWellNumbered}
use Rattle.flat_form.specs.Orders.{place_of, new_number, renumbered_part, IsRenumbering}
use Rattle.flat_form.specs.Parts.{variables_of, renumbered, Under, top, below}
use Rattle.flat_form.specs.Solved.{variable_of, IsSolved}
use Rattle.flat_form.specs.Steps.{FreeReaches, start, argument, equal, IsOuter, IsGrouped, Mentions, WithoutIdle, Settles, Finishes, IsCleared}
use Rattle.flat_form.proofs.Symbols.{each_of}
use Rattle.flat_facts.proofs.Follows.{over_below}
use Rattle.flat_facts.proofs.Shapes.{solved_form_solved}
use Rattle.cube_facts.specs.Numbers.{old_number}
use Rattle.cube_facts.proofs.Places.{same_or_not, side, number_low, number_in, new_number_puts}
use Rattle.cube_facts.proofs.Variables.{own_variable, variable_renumbered, stands_tells}
use Rattle.step_facts.specs.Grouped.{IsGroupedCube}
use Rattle.step_facts.proofs.NewNumbers.{distinct_increasing, distinct_both}
use Rattle.step_facts.proofs.Renumberings.{map_over}
use Rattle.step_facts.proofs.Grouped.{number_back, number_fixed, grouped_is_right}
use Rattle.step_facts.proofs.Cleared.{not_idle, end_over, end_solved, last_low, last_high}
use Rattle.numbering.specs.Meeting.{IsMet}
use Rattle.cube_reduction.specs.Ordering.{IsOrdered}

-- what stands behind an order changes no place in it
place_kept : (order more : List ℕ) (v : ℕ) → Contains order v → place_of (order ++ more) v ≡ place_of order v
place_kept [] more v i = absurd (omega (arith, i.1))
place_kept (x ∷ order) more v i = elim (same_or_not v x) [
  | inl e ↦ let t : nat_eq v x ≡ true = grind (arith, nat_tests) in rw t refl
  | inr differ ↦
      let t : nat_eq v x ≡ false = grind (arith, nat_tests) in
      let there : Contains order v = elim (contains_cases x v order i) [ inl e ↦ absurd (differ (sym e)) | inr more ↦ more ] in
      let e = place_kept order more v there in
      rw t (omega (arith, e))
]

-- numbers that agree on the variables of an atom
map_same : (f g : ℕ → ℕ) (xs : List ℕ) → ((v : ℕ) → Contains xs v → f v ≡ g v) → map f xs ≡ map g xs
map_same f g [] same = refl
map_same f g (x ∷ xs) same =
    let e = same x (contains_first x xs) in
    let r = map_same f g xs (λ v i. same v (contains_later x v xs i)) in
    cc

renumbered_same : (f g : ℕ → ℕ) (a : Flat) → ((v : ℕ) → Contains (variables_of a) v → f v ≡ g v) → renumbered f a ≡ renumbered g a
renumbered_same f g (VarVar u h) same =
    let e = same u (contains_first u (h ∷ [])) in
    let r = same h (contains_later u h (h ∷ []) (contains_first h [])) in
    cc
renumbered_same f g (VarTerm u s xs) same =
    let e = same u (contains_first u xs) in
    let r = map_same f g xs (λ v i. same v (contains_later u v xs i)) in
    cc
renumbered_same f g (Finite u) same = let e = same u (contains_first u []) in cc

-- distinct variables have distinct numbers
distinct_map : (f g : ℕ → ℕ) → ((v : ℕ) → g (f v) ≡ v) → (xs : List ℕ) → IsDistinct xs → IsDistinct (map f xs)
distinct_map f g back [] distinct = tt
distinct_map f g back (x ∷ xs) distinct = (
  λ i. let (w, there, e) = contains_image f xs (f x) i in distinct.0 (subst (λ (z : ℕ). Contains xs z) (sym (back w) ∙ ap g e ∙ back x) there),
  distinct_map f g back xs distinct.1,
)

-- what the free variables reach equals no variable, unless it is free itself
reach_plain : (free : ℕ) (form : List Flat) → IsSolved form → {v : ℕ} → FreeReaches free form v → (r : ℕ) → Contains form (VarVar v r) → v < free
reach_plain free form solved (start w) r i = w
reach_plain free form solved (argument {u} s xs up j k w) r i = absurd (solved.plain u s xs j k w r i)
reach_plain free form solved (equal {u} {r = q} up j) r i = absurd ((solved.direct u q j).1 r i)

module _ (raw cube : Cube) (idle : List ℕ) (over : IsWellNumbered raw) (g : IsGrouped raw cube idle) where
  abbrev number : ℕ → ℕ
  number v = new_number raw.free (raw.free + raw.outer) (g.kept ++ g.determined) v

  abbrev back_number : ℕ → ℕ
  back_number v = old_number raw.free (raw.free + raw.outer) (g.kept ++ g.determined) v

  right : IsGroupedCube cube idle
  right = grouped_is_right raw cube idle over g

  form_solved : IsSolved g.form
  form_solved = solved_form_solved raw.basic g.form g.solved

  back : (v : ℕ) → back_number (number v) ≡ v
  back v = number_back raw cube idle over.basic g v

  was_idle : (v : ℕ) → Contains idle (number v) → Contains g.idle_before v
  was_idle v i =
      let (w, there, e) = contains_image number g.idle_before (number v) (subst (λ (xs : List ℕ). Contains xs (number v)) g.idle_are i) in
      subst (λ (z : ℕ). Contains g.idle_before z) (sym (back w) ∙ ap back_number e ∙ back v) there

  idle_distinct : IsDistinct idle
  idle_distinct = subst (λ (xs : List ℕ). IsDistinct xs) (sym g.idle_are)
      (distinct_map number back_number back g.idle_before (distinct_increasing g.idle_before g.split.idle_ascending))

  module _ (rest : List Flat) (rest_is : (atom : Flat) → Contains rest atom ↔ (Contains cube.basic atom × (¬ Contains idle (variable_of atom)))) where
    -- an atom of a variable that the free ones reach stays
    stays : (a : Flat) → Contains g.form a → FreeReaches raw.free g.form (variable_of a) → Contains rest (renumbered number a)
    stays a i up = (rest_is (renumbered number a)).1 (
      (g.rest_is.is (renumbered number a)).1 (a, i, (λ d. ((g.split.determined_is (variable_of a)).0 d).1 up), refl),
      λ k. ((g.split.idle_is (variable_of a)).0 (was_idle (variable_of a) (subst (λ (z : ℕ). Contains idle z) (variable_renumbered number a) k))).1 up,
    )

    reached : {v : ℕ} → FreeReaches raw.free g.form v → Under raw.free rest (number v)
    reached (start {v} w) = top (omega (arith, (number_fixed raw cube idle over.basic g v w).0, w))
    reached (argument {u} s xs up i k within) =
        let here : Contains rest (VarTerm (number u) s (map number xs)) = stays (VarTerm u s xs) i up in
        let low : k < length (map number xs) = simp length-map within in
        let P : ℕ → Type 0 = λ z. Under raw.free rest z in
        subst P (index-map number xs k within) (below s (map number xs) (reached up) here k low)
    reached (equal {u} {r} up i) =
        let low : u < raw.free = reach_plain raw.free g.form form_solved up r i in
        let less : r < raw.free = omega (arith, low, (form_solved.direct u r i).0) in
        top (omega (arith, (number_fixed raw cube idle over.basic g r less).0, less))

    rest_low : (a : Flat) → Contains rest a → (v : ℕ) → Contains (variables_of a) v → v < cube.free + cube.outer
    rest_low a i v o = over_below (cube.free + cube.outer) cube.basic right.over.basic a ((rest_is a).0 i).0 v o

    rest_busy : (a : Flat) → Contains rest a → (v : ℕ) → Contains (variables_of a) v → ¬ Contains idle v
    rest_busy a i v o = not_idle cube idle right a ((rest_is a).0 i).0 ((rest_is a).0 i).1 v o

    inside : {v : ℕ} → Under cube.free rest v → cube.free ≤ v → IsOuter cube.free cube.outer v × (¬ Contains idle v)
    inside (top w) le = absurd (omega (arith, w, le))
    inside (below {u} s xs up here k within) le =
        let occurs : Contains (variables_of (VarTerm u s xs)) (slice_index xs k) = argument_occurs u xs k within in
        ((le, rest_low (VarTerm u s xs) here (slice_index xs k) occurs), rest_busy (VarTerm u s xs) here (slice_index xs k) occurs)

    outer_reached : (v : ℕ) → IsOuter cube.free cube.outer v → ¬ Contains idle v → Under cube.free rest v
    outer_reached v out busy =
        let k : ℕ = v - raw.free in
        let low : k < length g.kept = omega (arith, out.0, out.1, g.free_is, g.outer_is) in
        let w : ℕ = slice_index g.kept k in
        let outer = (g.kept_is w).0 (Contains-get_or g.kept k 0 low) in
        let puts = new_number_puts raw.free (raw.free + raw.outer) g.kept g.determined (distinct_increasing g.kept g.kept_ascending) (λ x i. ((g.kept_is x).0 i).0) in
        let e : number w ≡ v = omega (arith, puts.put k low, out.0, g.free_is) in
        let P : ℕ → Type 0 = λ z. Under raw.free rest z in
        let Q : ℕ → Type 0 = λ z. Under z rest v in
        elim (stands_tells g.needed w) [
          | inl there ↦ subst Q (sym g.free_is) (subst P e (reached ((g.split.needed_is w).0 there.1).1))
          | inr none ↦
              let unreached : ¬ FreeReaches raw.free g.form w = λ up. none.1 ((g.split.needed_is w).1 (outer.0, up)) in
              absurd (outer.1 ((g.split.determined_is w).1 (
                outer.0,
                unreached,
                λ bare.
                    busy (subst (λ (z : ℕ). Contains idle z) e (subst (λ (xs : List ℕ). Contains xs (number w)) (sym g.idle_are)
                    (contains_map number g.idle_before w ((g.split.idle_is w).1 (outer.0, unreached, bare))))),
              )))
        ]

    pub rest_over : BasicOver (cube.free + cube.outer) rest
    rest_over = each_of (AtomOver (cube.free + cube.outer)) rest
        (λ a i. All-contains (AtomOver (cube.free + cube.outer)) cube.basic a right.over.basic ((rest_is a).0 i).0)

    module _ (order : List ℕ) (met : IsMet cube.free (cube.free + cube.outer) rest order) where
      order_is : (v : ℕ) → Contains order v ↔ (IsOuter cube.free cube.outer v × (¬ Contains idle v))
      order_is v = (
        λ i. let p = (met.reached v).0 i in inside p.1 p.0,
        λ p. (met.reached v).1 (p.0.0, outer_reached v p.0 p.1),
      )

      same_number : (v : ℕ) → v < cube.free + cube.outer → ¬ Contains idle v
          → new_number cube.free (cube.free + cube.outer) (order ++ idle) v ≡ new_number cube.free (cube.free + cube.outer) order v
      same_number v w busy = elim (side v cube.free) [
        | inl low ↦ number_low cube.free (cube.free + cube.outer) (order ++ idle) v low ∙ sym (number_low cube.free (cube.free + cube.outer) order v low)
        | inr le ↦
            number_in cube.free (cube.free + cube.outer) (order ++ idle) v le w
            ∙ ap (λ (z : ℕ). cube.free + z) (place_kept order idle v ((order_is v).1 ((le, w), busy)))
            ∙ sym (number_in cube.free (cube.free + cube.outer) order v le w)
      ]

      same_atom : (a : Flat) → Contains rest a
          → renumbered (new_number cube.free (cube.free + cube.outer) (order ++ idle)) a ≡ renumbered (new_number cube.free (cube.free + cube.outer) order) a
      same_atom a i = renumbered_same (new_number cube.free (cube.free + cube.outer) (order ++ idle)) (new_number cube.free (cube.free + cube.outer) order) a
          (λ v o. same_number v (rest_low a i v o) (rest_busy a i v o))

      module _ (basic : List Flat)
          (is : IsRenumbering (new_number cube.free (cube.free + cube.outer) order) (λ (atom : Flat). (variable_of atom < cube.free) ⊎ Contains order (variable_of atom)) rest basic) where
        listed : (a : Flat) → Contains rest a → (variable_of a < cube.free) ⊎ Contains order (variable_of a)
        listed a i = elim (side (variable_of a) cube.free) [
          | inl w ↦ inl w
          | inr le ↦ inr ((order_is (variable_of a)).1 ((le, rest_low a i (variable_of a) (own_variable a)), ((rest_is a).0 i).1))
        ]

        -- the basic is in its last order
        pub ordered : IsOrdered cube idle order basic
        ordered = record {
          distinct = met.distinct;
          order_is = order_is;
          basic_is = record {
            ascending = is.ascending;
            is = λ a. (
              λ i. let (b, j, from, e) = (is.is a).0 i in let p = (rest_is b).0 j in (b, p.0, p.1, e ∙ sym (same_atom b j)),
              λ from. let (b, j, busy, e) = from in let there = (rest_is b).1 (j, busy) in (is.is a).1 (b, there, listed b there, e ∙ same_atom b there),
            );
          };
          numbered = met.numbered basic (record {
            ascending = is.ascending;
            is = λ a. (
              λ i. let (b, j, from, e) = (is.is a).0 i in (b, j, tt, e),
              λ from. let (b, j, any, e) = from in (is.is a).1 (b, j, listed b j, e),
            );
          });
        }

  module _ (order : List ℕ) (basic : List Flat) (o : IsOrdered cube idle order basic) where
    -- an order of all outer variables, the idle ones last
    pub all_distinct : IsDistinct (order ++ idle)
    all_distinct = distinct_both order idle o.distinct idle_distinct (λ v i. ((o.order_is v).0 i).1)

    pub all_within : All (λ v. (cube.free ≤ v) × (v < cube.free + cube.outer)) (order ++ idle)
    all_within = each_of (λ v. (cube.free ≤ v) × (v < cube.free + cube.outer)) (order ++ idle) (λ v i. elim (Contains-append_cases order idle v i) [
      | inl j ↦ ((o.order_is v).0 j).0
      | inr j ↦ right.outer v j
    ])

    -- the cube without parts, cleared
    abbrev bare : Cube
    bare = record { free = cube.free; outer = length order; basic = basic; parts = [] }

    abbrev cleared : IsCleared cube idle [] bare
    cleared = record {
      busy = [];
      order = order;
      second = [];
      busy_is = WithoutIdle.all_done;
      order_distinct = o.distinct;
      order_is = o.order_is;
      free_is = refl;
      outer_is = refl;
      basic_is = o.basic_is;
      numbered = o.numbered;
      second_is = Settles.all_done;
      parts_are = Finishes.all_done [];
    }

    pub basic_over : BasicOver (cube.free + length order) basic
    basic_over = end_over cube idle [] bare right cleared

    pub basic_solved : IsSolved basic
    basic_solved = end_solved cube idle [] bare right cleared

    -- a part that mentions no idle variable is well numbered under the new numbers
    pub part_over : (part : Part) → PartOver (cube.free + cube.outer) part → ((v : ℕ) → Contains idle v → ¬ Mentions part v)
        → PartOver (cube.free + length order) (renumbered_part (new_number cube.free (cube.free + cube.outer) (order ++ idle)) (length idle) part)
    part_over part low busy = map_over (new_number cube.free (cube.free + cube.outer) (order ++ idle)) (cube.free + cube.outer + part.inner)
        (cube.free + length order + (length idle + part.inner)) part.basic low (λ a i v here.
        let w : v < cube.free + cube.outer + part.inner = over_below (cube.free + cube.outer + part.inner) part.basic low a i v here in
        elim (side v (cube.free + cube.outer)) [
          | inl l ↦
              let h : new_number cube.free (cube.free + cube.outer) (order ++ idle) v < cube.free + length order =
              last_low cube idle [] bare right cleared v l (λ k. busy v k (a, i, here)) in
              omega (arith, h)
          | inr le ↦
              let e : new_number cube.free (cube.free + cube.outer) (order ++ idle) v ≡ cube.free + length order + length idle + (v - (cube.free + cube.outer)) =
              last_high cube idle [] bare right cleared v le in
              let low : v - (cube.free + cube.outer) < part.inner = omega (arith, le, w) in
              rw e (omega (arith, low))
        ])
