-- What the first two steps make of a raw cube: it is well numbered, its basic is solved, and what moves determines its
-- variables.
use Rattle.std.specs.Prelude.{Contains, All}
use Rattle.std.proofs.Common.{ℕ, ◌≡◌, ◌+◌, ◌-◌, ◌<◌, ◌≤◌, List, [], ◌∷◌, ◌++◌, map, length, refl, sym, ap, ◌∙◌, subst, arith, inl, inr, ◌⊎◌}
use Rattle.std.proofs.lemmas.List.Elements.{All-contains, All-append, Contains-append_cases}
use Rattle.lists.specs.Distinct.{IsDistinct}
use Rattle.tree_model.specs.declared.tree.Symbol.{Symbol}
use Rattle.tree_facts.proofs.Members.{contains_cases}
use Rattle.tree_facts.proofs.Renumbering.{contains_image}
use Rattle.flat_form.specs.declared.atom.Flat.{Flat}
use Rattle.flat_form.specs.declared.atom.Flat.TheVariants.{VarVar, VarTerm, Finite}
use Rattle.flat_form.specs.declared.cube.Part.{Part}
use Rattle.flat_form.specs.declared.cube.Cube.{Cube}
use Rattle.flat_form.specs.Numbering.{AtomOver, BasicOver, PartOver}
use Rattle.flat_form.specs.Orders.{new_number}
use Rattle.flat_form.specs.Parts.{variables_of, AllBelow, renumbered}
use Rattle.flat_form.specs.Solved.{variable_of, IsOpen, IsSolved}
use Rattle.flat_form.specs.Steps.{FreeReaches, start, argument, equal, IsOuter, IsGrouped}
use Rattle.flat_form.proofs.Symbols.{each_of}
use Rattle.flat_facts.specs.PartLaws.{Determines}
use Rattle.flat_facts.proofs.Follows.{over_below, added_over}
use Rattle.flat_facts.proofs.Shapes.{solved_form_solved, finite_open}
use Rattle.cube_facts.specs.Numbers.{old_number}
use Rattle.cube_facts.proofs.Places.{side}
use Rattle.cube_facts.proofs.Variables.{own_variable, argument_at, was_variable}
use Rattle.step_facts.specs.Grouped.{GroupedIsRight, MovedIsDetermined}
use Rattle.step_facts.proofs.NewNumbers.{distinct_increasing, distinct_both, number_is_back, free_number, number_in_front, front_number, number_behind, range_number, beyond_number, from_behind}
use Rattle.step_facts.proofs.Renumberings.{map_over, was_equal, was_term, was_finite, renumbering_over, one_old, loose_new, solved_new}

-- what the free variables reach equals no variable, unless it is free itself
reach_plain : (free : ℕ) (form : List Flat) → IsSolved form → {v : ℕ} → FreeReaches free form v → (r : ℕ) → Contains form (VarVar v r) → v < free
reach_plain free form solved (start w) r i = w
reach_plain free form solved (argument {u} s xs up j k w) r i = absurd (solved.plain u s xs j k w r i)
reach_plain free form solved (equal {u} {r = q} up j) r i = absurd ((solved.direct u q j).1 r i)

module _ (raw mid : Cube) (idle : List ℕ) (over : BasicOver (raw.free + raw.outer) raw.basic) (g : IsGrouped raw mid idle) where
  form_solved : IsSolved g.form
  form_solved = solved_form_solved raw.basic g.form g.solved

  form_over : BasicOver (raw.free + raw.outer) g.form
  form_over = added_over (raw.free + raw.outer) [] raw.basic g.form over g.solved

  form_low : AllBelow (raw.free + raw.outer) g.form
  form_low = over_below (raw.free + raw.outer) g.form form_over

  pub covers : (v : ℕ) → raw.free ≤ v → v < raw.free + raw.outer → ¬ Contains g.determined v → Contains g.kept v
  covers v a b none = (g.kept_is v).1 ((a, b), none)

  abbrev number : ℕ → ℕ
  number v = new_number raw.free (raw.free + raw.outer) (g.kept ++ g.determined) v

  abbrev back_number : ℕ → ℕ
  back_number v = old_number raw.free (raw.free + raw.outer) (g.kept ++ g.determined) v

  pub number_back : (v : ℕ) → back_number (number v) ≡ v
  number_back v = number_is_back raw.free (raw.free + raw.outer) g.kept g.determined (omega arith) covers v

  pub number_fixed : (v : ℕ) → v < raw.free → (number v ≡ v) × (back_number v ≡ v)
  number_fixed v w = free_number raw.free (raw.free + raw.outer) g.kept g.determined (omega arith) covers v w

  -- a variable equation that stays is of a free variable
  pub equal_free : (u r : ℕ) → Contains g.form (VarVar u r) → ¬ Contains g.determined u → u < raw.free
  equal_free u r i none = elim (side u raw.free) [
    | inl w ↦ w
    | inr le ↦ absurd (none ((g.split.determined_is u).1 (
      (le, form_low (VarVar u r) i u (own_variable (VarVar u r))),
      (λ reach. let w = reach_plain raw.free g.form form_solved reach r i in omega (arith, w, le)),
      λ bare. bare.no_variable r i,
    )))
  ]

  -- and a term that stays is of one that the free ones reach
  term_reached : (u : ℕ) (s : Symbol) (xs : List ℕ) → Contains g.form (VarTerm u s xs) → ¬ Contains g.determined u → ¬ (¬ FreeReaches raw.free g.form u)
  term_reached u s xs i none = λ n. elim (side u raw.free) [
    | inl w ↦ n (start w)
    | inr le ↦ none ((g.split.determined_is u).1 ((le, form_low (VarTerm u s xs) i u (own_variable (VarTerm u s xs))), n, λ bare. bare.no_term s xs i))
  ]

  -- what stands right in an atom that stays is reached
  pub own_or_reached : (a : Flat) → Contains g.form a → ¬ Contains g.determined (variable_of a) → (x : ℕ) → Contains (variables_of a) x
      → (x ≡ variable_of a) ⊎ (¬ (¬ FreeReaches raw.free g.form x))
  own_or_reached (VarVar u h) i none x o = elim (contains_cases u x (h ∷ []) o) [
    | inl e ↦ inl (sym e)
    | inr more ↦ elim (contains_cases h x [] more) [
      | inl e ↦ inr (λ n. n (subst (FreeReaches raw.free g.form) e (equal (start (equal_free u h i none)) i)))
      | inr none_there ↦ absurd (omega (arith, none_there.1))
    ]
  ]
  own_or_reached (VarTerm u s xs) i none x o = elim (contains_cases u x xs o) [
    | inl e ↦ inl (sym e)
    | inr more ↦
        let (j, w, e) = argument_at xs x more in
        inr (λ n. term_reached u s xs i none (λ up. n (subst (FreeReaches raw.free g.form) e (argument s xs up i j w))))
  ]
  own_or_reached (Finite u) i none x o = elim (contains_cases u x [] o) [
    | inl e ↦ inl (sym e)
    | inr none_there ↦ absurd (omega (arith, none_there.1))
  ]

  stays : (a : Flat) → Contains g.form a → ¬ Contains g.determined (variable_of a) → (x : ℕ) → Contains (variables_of a) x → ¬ Contains g.determined x
  stays a i none x o = λ d. elim (own_or_reached a i none x o) [
    | inl e ↦ none (subst (Contains g.determined) e d)
    | inr n ↦ n ((g.split.determined_is x).0 d).1
  ]

  -- an atom of the grouped cube with one of its variables, and what they come from
  record StaysFrom (a : Flat) (v : ℕ) : Type 0 where
    atom : Flat
    variable : ℕ
    stands : Contains g.form atom
    none : ¬ Contains g.determined (variable_of atom)
    atom_is : a ≡ renumbered (new_number raw.free (raw.free + raw.outer) (g.kept ++ g.determined)) atom
    occurs : Contains (variables_of atom) variable
    is : new_number raw.free (raw.free + raw.outer) (g.kept ++ g.determined) variable ≡ v

  stays_from : (a : Flat) → Contains mid.basic a → (v : ℕ) → Contains (variables_of a) v → StaysFrom a v
  stays_from a i v o =
      let (b, j, none, e) = (g.rest_is.is a).0 i in
      let (x, ox, is) = was_variable (new_number raw.free (raw.free + raw.outer) (g.kept ++ g.determined)) b v (subst (λ (z : Flat). Contains (variables_of z) v) e o) in
      record { atom = b; variable = x; stands = j; none = none; atom_is = e; occurs = ox; is = is }

  rest_over : BasicOver (raw.free + length g.kept) mid.basic
  rest_over = renumbering_over number (λ atom. ¬ Contains g.determined (variable_of atom)) g.form mid.basic g.rest_is (raw.free + raw.outer) (raw.free + length g.kept) form_over
      (λ a i none v o. front_number raw.free (raw.free + raw.outer) g.kept g.determined (omega arith) covers v (form_low a i v o) (stays a i none v o))

  pub rest_low : AllBelow (raw.free + length g.kept) mid.basic
  rest_low = over_below (raw.free + length g.kept) mid.basic rest_over

  both_free : (u h : ℕ) → Contains g.form (VarVar u h) → ¬ Contains g.determined u → (u < raw.free) × (h < raw.free)
  both_free u h i none = let low = equal_free u h i none in (low, omega (arith, low, (form_solved.direct u h i).0))

  both_fixed : (u h : ℕ) → Contains g.form (VarVar u h) → ¬ Contains g.determined u → (number u ≡ u) × (number h ≡ h)
  both_fixed u h i none = let low = both_free u h i none in ((number_fixed u low.0).0, (number_fixed h low.1).0)

  rest_solved : IsSolved mid.basic
  rest_solved = solved_new number (λ atom. ¬ Contains g.determined (variable_of atom)) g.form mid.basic g.rest_is back_number number_back form_solved both_fixed

  rest_equal : (u h : ℕ) → Contains mid.basic (VarVar u h) → (u < raw.free) × (h < raw.free)
  rest_equal u h i =
      let q = was_equal number (λ atom. ¬ Contains g.determined (variable_of atom)) g.form mid.basic g.rest_is u h i in
      let low = both_free q.left q.right q.stands q.taken in
      let keeps = both_fixed q.left q.right q.stands q.taken in
      (omega (arith, low.0, keeps.0, q.left_is), omega (arith, low.1, keeps.1, q.right_is))

  -- idle variables
  alone : (w : ℕ) → IsOpen g.form w → ¬ FreeReaches raw.free g.form w → (b : Flat) → Contains g.form b → ¬ Contains g.determined (variable_of b) → Contains (variables_of b) w
      → b ≡ Finite w
  alone w bare n (VarVar u h) i none o = elim (own_or_reached (VarVar u h) i none w o) [
    | inl e ↦ absurd (bare.no_variable h (subst (λ (z : ℕ). Contains g.form (VarVar z h)) (sym e) i))
    | inr r ↦ absurd (r n)
  ]
  alone w bare n (VarTerm u s xs) i none o = elim (own_or_reached (VarTerm u s xs) i none w o) [
    | inl e ↦ absurd (bare.no_term s xs (subst (λ (z : ℕ). Contains g.form (VarTerm z s xs)) (sym e) i))
    | inr r ↦ absurd (r n)
  ]
  alone w bare n (Finite u) i none o = elim (own_or_reached (Finite u) i none w o) [
    | inl e ↦ ap Finite (sym e)
    | inr r ↦ absurd (r n)
  ]

  pub idle_alone : (v : ℕ) → Contains idle v
      → IsOuter raw.free (length g.kept) v × ((a : Flat) → Contains mid.basic a → Contains (variables_of a) v → a ≡ Finite v)
  idle_alone v i =
      let (w, j, is) = contains_image (new_number raw.free (raw.free + raw.outer) (g.kept ++ g.determined)) g.idle_before v (subst (λ (xs : List ℕ). Contains xs v) g.idle_are i) in
      let (outer, unreached, bare) = (g.split.idle_is w).0 j in
      let kept : Contains g.kept w = (g.kept_is w).1 (outer, λ d. ((g.split.determined_is w).0 d).2 bare) in
      let place = number_in_front raw.free (raw.free + raw.outer) g.kept g.determined (omega arith) covers w outer.0 outer.1 kept in (
        (omega (arith, place.0, is), omega (arith, place.1, is)),
        λ a k o.
            let from = stays_from a k v o in
            let same : from.variable ≡ w = one_old _ _ g.form mid.basic g.rest_is back_number number_back form_solved from.variable w (from.is ∙ sym is) in
            let atom : from.atom ≡ Finite w = alone w bare unreached from.atom from.stands from.none (subst (Contains (variables_of from.atom)) same from.occurs) in
            from.atom_is ∙ (ap (renumbered (new_number raw.free (raw.free + raw.outer) (g.kept ++ g.determined))) atom ∙ ap Finite is),
      )

  -- what moves
  order_distinct : IsDistinct (g.kept ++ g.determined)
  order_distinct = distinct_both g.kept g.determined (distinct_increasing g.kept g.kept_ascending) (distinct_increasing g.determined g.split.determined_ascending)
      (λ v i. ((g.kept_is v).0 i).1)

  order_outer : (v : ℕ) → Contains (g.kept ++ g.determined) v → (raw.free ≤ v) × (v < raw.free + raw.outer)
  order_outer v i = elim (Contains-append_cases g.kept g.determined v i) [
    | inl j ↦ let o = ((g.kept_is v).0 j).0 in (o.0, o.1)
    | inr j ↦ let o = ((g.split.determined_is v).0 j).0 in (o.0, o.1)
  ]

  moved_low : AllBelow (raw.free + length g.kept + length g.determined) g.moved
  moved_low a i v o =
      let (b, j, none, e) = (g.moved_is.is a).0 i in
      let (x, ox, is) = was_variable (new_number raw.free (raw.free + raw.outer) (g.kept ++ g.determined)) b v (subst (λ (z : Flat). Contains (variables_of z) v) e o) in
      omega (arith, is, range_number raw.free (raw.free + raw.outer) g.kept g.determined (omega arith) covers x (form_low b j x ox))

  moved_equation : (w : ℕ) → Contains g.determined w → ¬ IsOpen g.moved (number w)
  moved_equation w d = λ bare. ((g.split.determined_is w).0 d).2 (record {
    no_variable = λ r i. bare.no_variable (number r) ((g.moved_is.is (renumbered (new_number raw.free (raw.free + raw.outer) (g.kept ++ g.determined)) (VarVar w r))).1 (VarVar w r, i, d, refl));
    no_term = λ s xs i. bare.no_term s (map (new_number raw.free (raw.free + raw.outer) (g.kept ++ g.determined)) xs)
        ((g.moved_is.is (renumbered (new_number raw.free (raw.free + raw.outer) (g.kept ++ g.determined)) (VarTerm w s xs))).1 (VarTerm w s xs, i, d, refl));
  })

  determined_high : (w : ℕ) → Contains g.determined w → raw.free + length g.kept ≤ number w
  determined_high w d =
      let o = ((g.split.determined_is w).0 d).0 in
      number_behind raw.free (raw.free + raw.outer) g.kept g.determined (omega arith) covers w o.0 o.1 (λ i. ((g.kept_is w).0 i).1 d)

  pub moved_determines : Determines (raw.free + length g.kept) (raw.free + length g.kept + length g.determined) g.moved
  moved_determines = record {
    in_order = omega arith;
    loose = loose_new _ _ g.form g.moved g.moved_is back_number number_back form_solved;
    low = moved_low;
    equations = λ u i.
        let a = was_finite _ _ g.form g.moved g.moved_is u i in
        ((g.split.determined_is a.left).0 a.taken).2 (finite_open g.form form_solved.ascending a.left a.stands);
    determined = λ v a b.
        let (w, d, is) = from_behind raw.free (raw.free + raw.outer) g.kept g.determined (omega arith) covers order_distinct order_outer v a b in
        subst (λ (z : ℕ). ¬ IsOpen g.moved z) is (moved_equation w d);
    others = λ v low. record {
      no_variable = λ r i.
          let a = was_equal _ _ g.form g.moved g.moved_is v r i in
          omega (arith, determined_high a.left a.taken, a.left_is, low);
      no_term = λ s xs i.
          let a = was_term _ _ g.form g.moved g.moved_is v s xs i in
          omega (arith, determined_high a.left a.taken, a.left_is, low);
    };
  }

  -- the parts
  new_part_low : (inner v : ℕ) → v < raw.free + raw.outer + inner → number v < mid.free + mid.outer + (length g.determined + inner)
  new_part_low inner v w = elim (side v (raw.free + raw.outer)) [
    | inl low ↦
        let r : number v < raw.free + length g.kept + length g.determined = range_number raw.free (raw.free + raw.outer) g.kept g.determined (omega arith) covers v low in
        omega (arith, r, g.free_is, g.outer_is)
    | inr high ↦
        let r : number v ≡ raw.free + length g.kept + length g.determined + (v - (raw.free + raw.outer)) =
        beyond_number raw.free (raw.free + raw.outer) g.kept g.determined (omega arith) covers v high in
        omega (arith, r, w, g.free_is, g.outer_is)
  ]

  moved_over : (inner : ℕ) → BasicOver (mid.free + mid.outer + (length g.determined + inner)) g.moved
  moved_over inner = renumbering_over number (λ atom. Contains g.determined (variable_of atom)) g.form g.moved g.moved_is (raw.free + raw.outer)
      (mid.free + mid.outer + (length g.determined + inner)) form_over
      (λ a j out v o. let w : v < raw.free + raw.outer = form_low a j v o in new_part_low inner v (omega arith))

  part_over : (part : Part) → PartOver (raw.free + raw.outer) part
      → BasicOver (mid.free + mid.outer + (length g.determined + part.inner)) (g.moved ++ map (renumbered number) part.basic)
  part_over part part_is =
      let n : ℕ = mid.free + mid.outer + (length g.determined + part.inner) in
      All-append (AtomOver n) g.moved (map (renumbered number) part.basic) (moved_over part.inner)
      (map_over number (raw.free + raw.outer + part.inner) n part.basic part_is
      (λ a j v o. new_part_low part.inner v (over_below (raw.free + raw.outer + part.inner) part.basic part_is a j v o)))

  parts_over : All (PartOver (raw.free + raw.outer)) raw.parts → All (PartOver (mid.free + mid.outer)) mid.parts
  parts_over all = subst (λ (ps : List Part). All (PartOver (mid.free + mid.outer)) ps) (sym g.parts_are)
      (each_of (PartOver (mid.free + mid.outer)) _ (λ part i.
      let make : Part → Part = λ part. record { inner = length g.determined + part.inner; basic = g.moved ++ map (renumbered number) part.basic } in
      let (other, stands, same) = contains_image make raw.parts part i in
      subst (λ (z : Part). PartOver (mid.free + mid.outer) z) same (part_over other (All-contains (PartOver (raw.free + raw.outer)) raw.parts other all stands))))

pub grouped_is_right : GroupedIsRight
grouped_is_right raw mid idle over g =
    let m : raw.free + length g.kept ≡ mid.free + mid.outer = omega (arith, g.free_is, g.outer_is) in
    record {
      over = record {
        basic = subst (λ (n : ℕ). BasicOver n mid.basic) m (rest_over raw mid idle over.basic g);
        parts = parts_over raw mid idle over.basic g over.parts;
      };
      solved = rest_solved raw mid idle over.basic g;
      low = λ u h i. let low = rest_equal raw mid idle over.basic g u h i in (omega (arith, g.free_is, low.0), omega (arith, g.free_is, low.1));
      outer = λ v i. let is = idle_alone raw mid idle over.basic g v i in (omega (arith, g.free_is, is.0.0), omega (arith, g.free_is, g.outer_is, is.0.1));
      alone = λ v i. (idle_alone raw mid idle over.basic g v i).1;
    }

pub moved_is_determined : MovedIsDetermined
moved_is_determined raw mid idle over g =
    let m : raw.free + length g.kept ≡ mid.free + mid.outer = omega (arith, g.free_is, g.outer_is) in
    subst (λ (n : ℕ). Determines n (n + length g.determined) g.moved) m (moved_determines raw mid idle over g)
