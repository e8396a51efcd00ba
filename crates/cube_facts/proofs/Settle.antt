-- A settled part fails where the part does, under all values that meet the base, and it has the shape of a part.
use Rattle.std.specs.Prelude.{Contains, max, All}
use Rattle.std.proofs.Common.{ℕ, ◌≡◌, ◌<◌, ◌≤◌, ◌+◌, List, [], ◌∷◌, ◌++◌, refl, sym, subst, arith, inl, inr, ◌⊎◌}
use Rattle.std.proofs.lemmas.List.Elements.{All-contains, Contains-append_cases}
use Rattle.tree_model.specs.Signatures.{Signature}
use Rattle.tree_model.specs.Valuations.{Valuation}
use Rattle.tree_facts.proofs.Members.{contains_first, contains_later, contains_cases}
use Rattle.flat_form.specs.declared.atom.Flat.{Flat}
use Rattle.flat_form.specs.declared.atom.Flat.TheVariants.{VarVar, VarTerm, Finite}
use Rattle.flat_form.specs.declared.cube.Part.{Part}
use Rattle.flat_form.specs.Added.{by_term, by_root, Adds, AddsEqual, IsAdded}
use Rattle.flat_form.specs.Classes.{itself}
use Rattle.flat_form.specs.Fitting.{AtomFits, BasicFits}
use Rattle.flat_form.specs.Meanings.{BasicHolds, Extends, AllFail, HasNone}
use Rattle.flat_form.specs.Numbering.{AtomOver, BasicOver, PartOver}
use Rattle.flat_form.specs.Parts.{AllBelow, IsPruned, IsPartOver}
use Rattle.flat_form.specs.Solved.{variable_of, IsOpen, HasTerm, IsSolved}
use Rattle.flat_form.specs.Steps.{SettlesTo, Settles}
use Rattle.flat_form.proofs.Symbols.{each_of}
use Rattle.flat_facts.specs.PartLaws.{Fails}
use Rattle.flat_facts.proofs.FiniteReached.{added_suffices}
use Rattle.flat_facts.proofs.Follows.{over_below, added_over, added_follows, added_fits}
use Rattle.flat_facts.proofs.Lists.{both_hold, one_each}
use Rattle.flat_facts.proofs.PartShapes.{added_loose, pruned_part_over}
use Rattle.flat_facts.proofs.Pruned.{pruned_fails}
use Rattle.flat_facts.proofs.Shapes.{added_direct, added_is_apart}
use Rattle.cube_facts.specs.Settling.{SettledFails, HasSettledShape, SettledShape, SomethingIsLeft}
use Rattle.cube_facts.proofs.FreshValues.{atoms_above, all_fresh, every_part_fails}
use Rattle.cube_facts.proofs.Moved.{holds_again}

pub all_of : {A : Type 0} (P : A → Type 0) (xs ys : List A) → All P xs → All P ys → All P (xs ++ ys)
all_of P xs ys a b = each_of P (xs ++ ys) (λ x i. elim (Contains-append_cases xs ys x i) [
  | inl j ↦ All-contains P xs x a j
  | inr j ↦ All-contains P ys x b j
])

-- what has a term in the base is below m, and equals no variable
pub term_apart : (m : ℕ) (base : List Flat) → IsSolved base → AllBelow m base → (h : ℕ) → HasTerm base h → (h < m) × ((r : ℕ) → ¬ Contains base (VarVar h r))
term_apart m base solved low h (s, xs, i) = (
  low (VarTerm h s xs) i h (contains_first h xs),
  λ r j. let e : VarTerm h s xs ≡ VarVar h r = one_each base solved.ascending (VarTerm h s xs) (VarVar h r) i j refl in cc e,
)

module _ (m : ℕ) (base part : List Flat) (solved : IsSolved base) (base_low : AllBelow m base) where
  pub settled_over : (added pruned : List Flat) → IsAdded base (base ++ part) added → IsPruned m added pruned → IsPartOver m base pruned
  settled_over added pruned adds cut = pruned_part_over m base (base ++ part) added pruned adds cut (term_apart m base solved base_low)

  module _ (σ : Signature) (e : Valuation σ) (holds : BasicHolds e base) where
    base_again : (z : Valuation σ) → Extends m e z → BasicHolds z base
    base_again z like = holds_again m base e z base_low like holds

    -- a part that cannot hold beside the base fails
    pub dropped_fails : HasNone (base ++ part) → Fails m e part
    dropped_fails none z like = λ h. none σ z (both_hold z base part (base_again z like) h)

    module _ (fits : BasicFits σ (base ++ part)) (added pruned : List Flat) (adds : IsAdded base (base ++ part) added) (cut : IsPruned m added pruned) where
      added_to_pruned : (Fails m e added → Fails m e pruned) × (Fails m e pruned → Fails m e added)
      added_to_pruned =
          let r = pruned_fails σ m added pruned e (added_loose base (base ++ part) added adds) (added_fits σ base (base ++ part) added fits adds) cut
          (λ u h i low. ((settled_over added pruned adds cut).equal u h (cut.all (VarVar u h) i low)).1) in
          (r.0, r.1)

      pub settled_fails : Fails m e part → Fails m e pruned
      settled_fails fails = added_to_pruned.0 (λ z like h. fails z like (added_suffices σ base part added z solved.direct adds (base_again z like) h))

      pub fails_settled : Fails m e pruned → Fails m e part
      fails_settled fails z like = λ h. added_to_pruned.1 fails z like (added_follows σ base (base ++ part) added z adds (both_hold z base part (base_again z like) h))

-- all parts at once
module _ (σ : Signature) (m : ℕ) (base : List Flat) (solved : IsSolved base) (base_low : AllBelow m base) (base_fits : BasicFits σ base)
    (e : Valuation σ) (holds : BasicHolds e base) where
  pub settles_there : (old new : List Part) → Settles m base old new → ((part : Part) → Contains old part → BasicFits σ part.basic)
      → AllFail m e old → AllFail m e new
  settles_there old new (Settles.all_done) fits all = tt
  settles_there old new (Settles.dropped part rest kept none more) fits all =
      settles_there rest kept more (λ p i. fits p (contains_later part p rest i)) all.1
  settles_there old new (Settles.settled part new_part rest kept is more) fits all = (
    settled_fails m base part.basic solved base_low σ e holds
        (all_of (AtomFits σ) base part.basic base_fits (fits part (contains_first part rest))) is.added new_part.basic is.is_added is.is_pruned all.0,
    settles_there rest kept more (λ p i. fits p (contains_later part p rest i)) all.1,
  )

  pub settles_back : (old new : List Part) → Settles m base old new → ((part : Part) → Contains old part → BasicFits σ part.basic)
      → AllFail m e new → AllFail m e old
  settles_back old new (Settles.all_done) fits all = tt
  settles_back old new (Settles.dropped part rest kept none more) fits all = (
    dropped_fails m base part.basic solved base_low σ e holds none,
    settles_back rest kept more (λ p i. fits p (contains_later part p rest i)) all,
  )
  settles_back old new (Settles.settled part new_part rest kept is more) fits all = (
    fails_settled m base part.basic solved base_low σ e holds
        (all_of (AtomFits σ) base part.basic base_fits (fits part (contains_first part rest))) is.added new_part.basic is.is_added is.is_pruned all.0,
    settles_back rest kept more (λ p i. fits p (contains_later part p rest i)) all.1,
  )

pub each_fits : (σ : Signature) (parts : List Part) → All (λ (part : Part). BasicFits σ part.basic) parts → (part : Part) → Contains parts part
    → BasicFits σ part.basic
each_fits σ parts fits part i = All-contains (λ (p : Part). BasicFits σ p.basic) parts part fits i

pub settled_parts_fail : SettledFails
settled_parts_fail σ m base old new e solved over base_fits fits settles holds = (
  settles_there σ m base solved (over_below m base over) base_fits e holds old new settles (each_fits σ old fits),
  settles_back σ m base solved (over_below m base over) base_fits e holds old new settles (each_fits σ old fits),
)

-- settled parts have the shape of parts
pub settles_over : (m : ℕ) (base : List Flat) → IsSolved base → AllBelow m base → (old new : List Part) → Settles m base old new
    → (part : Part) → Contains new part → IsPartOver m base part.basic
settles_over m base solved base_low old new (Settles.all_done) p i = absurd (omega (arith, i.1))
settles_over m base solved base_low old new (Settles.dropped part rest kept none more) p i = settles_over m base solved base_low rest kept more p i
settles_over m base solved base_low old new (Settles.settled part new_part rest kept is more) p i =
    elim (contains_cases new_part p kept i) [
      | inl e ↦ subst (λ (q : Part). IsPartOver m base q.basic) e (settled_over m base part.basic solved base_low is.added new_part.basic is.is_added is.is_pruned)
      | inr later ↦ settles_over m base solved base_low rest kept more p later
    ]

-- and more
over_more : (m more : ℕ) (a : Flat) → AtomOver m a → AtomOver (m + more) a
over_more m more (VarVar u r) over = (omega (arith, over.0), omega (arith, over.1))
over_more m more (VarTerm u s xs) over =
    (omega (arith, over.0), each_of (λ v. v < m + more) xs (λ v i. omega (arith, All-contains (λ z. z < m) xs v over.1 i)), over.2)
over_more m more (Finite u) over = omega (arith, over)

left_bare : (base atoms : List Flat) (a : Flat) → Adds base atoms a → IsOpen base (variable_of a)
left_bare base atoms (VarVar v h) new = new.bare
left_bare base atoms (VarTerm v s ys) new = new.bare
left_bare base atoms (Finite v) new = new.bare

right_side : (base atoms : List Flat) (u h : ℕ) → AddsEqual base atoms u h → (h < u) ⊎ HasTerm base h
right_side base atoms u h new = elim new.head [
  | by_term c t l ↦ inr t
  | by_root none c o l ↦ inl (omega (arith, l u (itself u) new.bare, new.differ))
]

module _ (m : ℕ) (base : List Flat) (part new_part : Part) (solved : IsSolved base) (base_over : BasicOver m base) (part_over : PartOver m part)
    (is : SettlesTo m base part new_part) where
  in_added : (a : Flat) → Contains new_part.basic a → Contains is.added a
  in_added a i = (is.is_pruned.from a i).0

  wide_base : BasicOver (m + part.inner) base
  wide_base = each_of (AtomOver (m + part.inner)) base (λ b j. over_more m part.inner b (All-contains (AtomOver m) base b base_over j))

  settled_in_scope : BasicOver (m + part.inner) new_part.basic
  settled_in_scope = each_of (AtomOver (m + part.inner)) new_part.basic (λ a i. All-contains (AtomOver (m + part.inner)) is.added a
      (added_over (m + part.inner) base (base ++ part.basic) is.added (all_of (AtomOver (m + part.inner)) base part.basic wide_base part_over) is.is_added) (in_added a i))

  settled_shape : HasSettledShape m base new_part
  settled_shape = record {
    over = subst (λ (n : ℕ). BasicOver (m + n) new_part.basic) (sym is.inner_is) settled_in_scope;
    ascending = is.is_pruned.ascending;
    shape = settled_over m base part.basic solved (over_below m base base_over) is.added new_part.basic is.is_added is.is_pruned;
    left_open = λ a i. left_bare base (base ++ part.basic) a (is.is_added.each a (in_added a i));
    equal = λ u h i. (
      right_side base (base ++ part.basic) u h (is.is_added.each (VarVar u h) (in_added (VarVar u h) i)),
      λ w j. added_direct base (base ++ part.basic) is.added is.is_added u h w (in_added (VarVar u h) i) (in_added (VarVar h w) j),
    );
    apart = λ u v s xs i.
        let both = added_is_apart base part.basic is.added u v s xs is.is_added (in_added (VarTerm u s xs) i) in
        (both.0, λ j. both.1 (in_added (VarTerm v s xs) j));
  }

settles_shape : (m : ℕ) (base : List Flat) → IsSolved base → BasicOver m base → (old new : List Part) → Settles m base old new
    → ((part : Part) → Contains old part → PartOver m part) → (part : Part) → Contains new part → HasSettledShape m base part
settles_shape m base solved base_over old new (Settles.all_done) over p i = absurd (omega (arith, i.1))
settles_shape m base solved base_over old new (Settles.dropped part rest kept none more) over p i =
    settles_shape m base solved base_over rest kept more (λ q j. over q (contains_later part q rest j)) p i
settles_shape m base solved base_over old new (Settles.settled part new_part rest kept is more) over p i =
    elim (contains_cases new_part p kept i) [
      | inl e ↦ subst (HasSettledShape m base) e (settled_shape m base part new_part solved base_over (over part (contains_first part rest)) is)
      | inr later ↦ settles_shape m base solved base_over rest kept more (λ q j. over q (contains_later part q rest j)) p later
    ]

pub settled_parts_shape : SettledShape
settled_parts_shape m base old new solved base_over over settles =
    each_of (HasSettledShape m base) new (settles_shape m base solved base_over old new settles (λ p i. All-contains (PartOver m) old p over i))

-- something is left
pub some_atom : (xs : List Flat) → ¬ (xs ≡ []) → (a : Flat) × Contains xs a
some_atom [] none = absurd (none refl)
some_atom (a ∷ rest) none = (a, contains_first a rest)

pub something_is_left : SomethingIsLeft
something_is_left σ m base part added pruned solved over base_fits part_fits shape some adds cut = λ empty.
    let k : ℕ = max (atoms_above base) (atoms_above part.basic) in
    let base_above : atoms_above base ≤ k = omega arith in
    let (d, is) = all_fresh σ k base solved base_fits base_above in
    let (a, i) = some_atom part.basic some in
    let fails : Fails m d part.basic = every_part_fails σ k base solved base_fits base_above m d is part.basic (omega arith) shape a i in
    settled_fails m base part.basic solved (over_below m base over) σ d is.holds (all_of (AtomFits σ) base part.basic base_fits part_fits)
    added pruned adds cut fails d (λ v w path. refl) (subst (λ (xs : List Flat). BasicHolds d xs) (sym empty) tt)
