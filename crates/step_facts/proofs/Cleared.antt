-- The last steps: the basic of what they make is solved, and its parts are settled and distinct.
use Rattle.std.specs.Prelude.{Contains}
use Rattle.std.proofs.Common.{ℕ, ◌≡◌, ◌+◌, ◌-◌, ◌<◌, ◌≤◌, List, [], ◌∷◌, ◌++◌, map, length, sym, subst, arith, inl, inr, ◌⊎◌}
use Rattle.std.proofs.lemmas.List.Elements.{All-contains, Contains-append_cases}
use Rattle.lists.specs.Distinct.{IsDistinct}
use Rattle.tree_model.specs.Signatures.{Signature}
use Rattle.tree_facts.proofs.Members.{contains_first, contains_later, contains_cases}
use Rattle.tree_facts.proofs.Renumbering.{contains_map, contains_image}
use Rattle.flat_form.specs.declared.atom.Flat.{Flat}
use Rattle.flat_form.specs.declared.cube.Part.{Part}
use Rattle.flat_form.specs.declared.cube.Cube.{Cube}
use Rattle.flat_form.specs.Fitting.{BasicFits}
use Rattle.flat_form.specs.Numbering.{BasicOver, PartOver}
use Rattle.flat_form.specs.Parts.{variables_of, renumbered, IsPartOver}
use Rattle.flat_form.specs.Solved.{variable_of, IsSolved}
use Rattle.flat_form.specs.Orders.{new_number, renumbered_part}
use Rattle.flat_form.specs.Steps.{Settles, Mentions, WithoutIdle, NumbersInner, Finishes, IsCleared}
use Rattle.flat_form.proofs.Symbols.{each_of}
use Rattle.flat_facts.proofs.Follows.{over_below}
use Rattle.cube_facts.specs.Numbers.{old_number}
use Rattle.cube_facts.specs.Settling.{HasSettledShape}
use Rattle.cube_facts.proofs.Places.{side}
use Rattle.cube_facts.proofs.Settle.{settled_parts_shape, something_is_left, some_atom}
use Rattle.cube_facts.proofs.Shape.{shape_renumbered}
use Rattle.step_facts.proofs.NewNumbers.{number_is_back, free_number, bound_number, front_number, beyond_number}
use Rattle.step_facts.proofs.Renumberings.{map_over, renumbering_over, solved_new}
use Rattle.step_facts.specs.Grouped.{IsGroupedCube}

-- what is busy was there before, and mentions no idle variable
pub busy_parts : (idle : List ℕ) (old new : List Part) → WithoutIdle idle old new → (part : Part) → Contains new part
    → Contains old part × ((v : ℕ) → Contains idle v → ¬ Mentions part v)
busy_parts idle old new (WithoutIdle.all_done) part i = absurd (omega (arith, i.1))
busy_parts idle old new (WithoutIdle.dropped p v o n here mentions more) part i =
    let r = busy_parts idle o n more part i in (contains_later p part o r.0, r.1)
busy_parts idle old new (WithoutIdle.stays p o n none more) part i = elim (contains_cases p part n i) [
  | inl e ↦ (
    subst (λ (z : Part). Contains (p ∷ o) z) e (contains_first p o),
    subst (λ (z : Part). (v : ℕ) → Contains idle v → ¬ Mentions z v) e none,
  )
  | inr later ↦ let r = busy_parts idle o n more part later in (contains_later p part o r.0, r.1)
]

-- each part at the end is a part from before, with numbers of its own
pub finished : (m : ℕ) (done parts out : List Part) → Finishes m done parts out → (new : Part) → Contains out new
    → Contains done new ⊎ ((part : Part) × Contains parts part × NumbersInner m part new)
finished m done parts out (Finishes.all_done all) new i = inl i
finished m done parts out (Finishes.twice all p it rest end numbers there more) new i = elim (finished m all rest end more new i) [
  | inl before ↦ inl before
  | inr found ↦ let (part, stands, is) = found in inr (part, contains_later p part rest stands, is)
]
finished m done parts out (Finishes.new all p it rest end numbers none more) new i = elim (finished m (all ++ it ∷ []) rest end more new i) [
  | inl before ↦ elim (Contains-append_cases all (it ∷ []) new before) [
    | inl j ↦ inl j
    | inr j ↦ elim (contains_cases it new [] j) [
      | inl e ↦ inr (p, contains_first p rest, subst (λ (z : Part). NumbersInner m p z) e numbers)
      | inr k ↦ absurd (omega (arith, k.1))
    ]
  ]
  | inr found ↦ let (part, stands, is) = found in inr (part, contains_later p part rest stands, is)
]

-- one item more, which is not there yet
pub distinct_more : {X : Type 0} (xs : List X) (x : X) → IsDistinct xs → ¬ Contains xs x → IsDistinct (xs ++ x ∷ [])
distinct_more [] x distinct out = ((λ i. omega (arith, i.1)), tt)
distinct_more (y ∷ xs) x distinct out = (
  (λ i. elim (Contains-append_cases xs (x ∷ []) y i) [
    | inl j ↦ distinct.0 j
    | inr j ↦ elim (contains_cases x y [] j) [
      | inl e ↦ out (subst (λ z. Contains (y ∷ xs) z) (sym e) (contains_first y xs))
      | inr k ↦ omega (arith, k.1)
    ]
  ]),
  distinct_more xs x distinct.1 (λ i. out (contains_later y x xs i)),
)

-- no part stands twice
pub finished_distinct : (m : ℕ) (done parts out : List Part) → Finishes m done parts out → IsDistinct done → IsDistinct out
finished_distinct m done parts out (Finishes.all_done all) distinct = distinct
finished_distinct m done parts out (Finishes.twice all p it rest end numbers there more) distinct = finished_distinct m all rest end more distinct
finished_distinct m done parts out (Finishes.new all p it rest end numbers none more) distinct =
    finished_distinct m (all ++ it ∷ []) rest end more (distinct_more all it distinct none)

-- what is needed of a part, that something is left of it
pub record IsSomePart (σ : Signature) (m : ℕ) (base : List Flat) (part : Part) : Type 0 where
  pub fits : BasicFits σ part.basic
  pub shape : IsPartOver m base part.basic
  pub some : ¬ (part.basic ≡ [])

pub left_some : (σ : Signature) (m : ℕ) (base : List Flat) → IsSolved base → BasicOver m base → BasicFits σ base → (old new : List Part) → Settles m base old new
    → ((part : Part) → Contains old part → IsSomePart σ m base part) → (part : Part) → Contains new part → ¬ (part.basic ≡ [])
left_some σ m base solved over base_fits old new (Settles.all_done) each part i = absurd (omega (arith, i.1))
left_some σ m base solved over base_fits old new (Settles.dropped p rest kept none more) each part i =
    left_some σ m base solved over base_fits rest kept more (λ q j. each q (contains_later p q rest j)) part i
left_some σ m base solved over base_fits old new (Settles.settled p it rest kept is more) each part i =
    let was = each p (contains_first p rest) in
    elim (contains_cases it part kept i) [
      | inl e ↦ subst (λ (q : Part). ¬ (q.basic ≡ [])) e (something_is_left σ m base p is.added it.basic solved over base_fits was.fits was.shape was.some is.is_added is.is_pruned)
      | inr later ↦ left_some σ m base solved over base_fits rest kept more (λ q j. each q (contains_later p q rest j)) part later
    ]

-- a variable of an atom that is not idle is not idle
pub not_idle : (mid : Cube) (idle : List ℕ) → IsGroupedCube mid idle → (a : Flat) → Contains mid.basic a → ¬ Contains idle (variable_of a)
    → (v : ℕ) → Contains (variables_of a) v → ¬ Contains idle v
not_idle mid idle before a i none v o = λ k.
    none (subst (λ (z : Flat). Contains idle (variable_of z)) (sym (before.alone v k a i o)) k)

module _ (mid : Cube) (idle : List ℕ) (first : List Part) (cube : Cube) (before : IsGroupedCube mid idle) (c : IsCleared mid idle first cube) where
  abbrev scope : ℕ
  scope = mid.free + mid.outer

  abbrev bound : ℕ
  bound = cube.free + cube.outer

  abbrev number : ℕ → ℕ
  number v = new_number mid.free (mid.free + mid.outer) (c.order ++ idle) v

  abbrev old : ℕ → ℕ
  old v = old_number mid.free (mid.free + mid.outer) (c.order ++ idle) v

  covers : (v : ℕ) → mid.free ≤ v → v < mid.free + mid.outer → ¬ Contains idle v → Contains c.order v
  covers v a b out = (c.order_is v).1 ((a, b), out)

  pub last_back : (v : ℕ) → old (number v) ≡ v
  last_back v = number_is_back mid.free scope c.order idle (omega arith) covers v

  pub last_fixed : (v : ℕ) → v < mid.free → (number v ≡ v) × (old v ≡ v)
  last_fixed v low = free_number mid.free scope c.order idle (omega arith) covers v low

  pub last_bound : (v : ℕ) → mid.free ≤ v → mid.free ≤ number v
  last_bound v le = bound_number mid.free scope c.order idle (omega arith) covers v le

  bound_is : bound ≡ mid.free + length c.order
  bound_is = omega (arith, c.free_is, c.outer_is)

  pub last_low : (v : ℕ) → v < scope → ¬ Contains idle v → number v < bound
  last_low v low out = let w = front_number mid.free scope c.order idle (omega arith) covers v low out in omega (arith, w, bound_is)

  pub last_high : (v : ℕ) → scope ≤ v → number v ≡ bound + length idle + (v - scope)
  last_high v high = let e = beyond_number mid.free scope c.order idle (omega arith) covers v high in omega (arith, e, bound_is)

  pub end_over : BasicOver bound cube.basic
  end_over = renumbering_over number (λ atom. ¬ Contains idle (variable_of atom)) mid.basic cube.basic c.basic_is scope bound before.over.basic
      (λ a i busy v o. last_low v (over_below scope mid.basic before.over.basic a i v o) (not_idle mid idle before a i busy v o))

  pub end_solved : IsSolved cube.basic
  end_solved = solved_new number (λ atom. ¬ Contains idle (variable_of atom)) mid.basic cube.basic c.basic_is (λ v. old v) last_back before.solved
      (λ u h i busy. let low = before.low u h i in ((last_fixed u low.0).0, (last_fixed h low.1).0))

  module _ (settled : (part : Part) → Contains first part → HasSettledShape (mid.free + mid.outer) mid.basic part) where
    module _ (part : Part) (inside : Contains c.busy part) where
      was : Contains first part × ((v : ℕ) → Contains idle v → ¬ Mentions part v)
      was = busy_parts idle first c.busy c.busy_is part inside

      unmentioned : (v : ℕ) → Mentions part v → ¬ Contains idle v
      unmentioned v there = λ i. was.1 v i there

      pub busy_over : PartOver bound (renumbered_part number (length idle) part)
      busy_over = map_over number (scope + part.inner) (bound + (length idle + part.inner)) part.basic (settled part was.0).over (λ a i v o.
          let low : v < scope + part.inner = over_below (scope + part.inner) part.basic (settled part was.0).over a i v o in
          elim (side v scope) [
            | inl l ↦ let w = last_low v l (unmentioned v (a, i, o)) in omega (arith, w)
            | inr le ↦ let e = last_high v le in omega (arith, e, low)
          ])

      pub busy_shape : IsPartOver bound cube.basic (map (renumbered number) part.basic)
      busy_shape = shape_renumbered scope bound number old mid.basic part.basic cube.basic (map (renumbered number) part.basic) (λ v there. last_back v)
          (λ v there. record {
            back = last_back v;
            low = λ l. last_low v l (unmentioned v there);
            high = λ le. let e = last_high v le in omega (arith, e);
          })
          (λ a i. let (b, stands, out, e) = (c.basic_is.is a).0 i in (b, stands, e))
          (λ a. (
            λ i. let (b, stands, same) = contains_image (renumbered number) part.basic a i in (b, stands, sym same),
            λ from. let (b, stands, e) = from in
                subst (λ (z : Flat). Contains (map (renumbered number) part.basic) z) (sym e) (contains_map (renumbered number) part.basic b stands),
          ))
          (settled part was.0).shape

      pub busy_some : ((p : Part) → Contains first p → ¬ (p.basic ≡ [])) → ¬ (map (renumbered number) part.basic ≡ [])
      busy_some some = λ empty.
          let (a, i) = some_atom part.basic (some part was.0) in
          let nowhere : Contains [] (renumbered number a) =
          subst (λ (xs : List Flat). Contains xs (renumbered number a)) empty (contains_map (renumbered number) part.basic a i) in
          omega (arith, nowhere.1)

    pub second_shape : (part : Part) → Contains c.second part → HasSettledShape bound cube.basic part
    second_shape part i = All-contains (HasSettledShape bound cube.basic) c.second part
        (settled_parts_shape bound cube.basic (map (renumbered_part number (length idle)) c.busy) c.second end_solved end_over
        (each_of (PartOver bound) (map (renumbered_part number (length idle)) c.busy) (λ p j.
        let (was_part, stands, same) = contains_image (renumbered_part number (length idle)) c.busy p j in
        subst (λ (z : Part). PartOver bound z) same (busy_over was_part stands)))
        c.second_is) i

    pub second_some : (σ : Signature) → BasicFits σ cube.basic
        → ((part : Part) → Contains (map (renumbered_part number (length idle)) c.busy) part → BasicFits σ part.basic)
        → ((p : Part) → Contains first p → ¬ (p.basic ≡ [])) → (part : Part) → Contains c.second part → ¬ (part.basic ≡ [])
    second_some σ base_fits fits some part i =
        left_some σ bound cube.basic end_solved end_over base_fits (map (renumbered_part number (length idle)) c.busy) c.second c.second_is (λ p j.
        let (was_part, stands, same) = contains_image (renumbered_part number (length idle)) c.busy p j in
        record {
          fits = fits p j;
          shape = subst (λ (z : Part). IsPartOver bound cube.basic z.basic) same (busy_shape was_part stands);
          some = subst (λ (z : Part). ¬ (z.basic ≡ [])) same (busy_some was_part stands some);
        }) part i
