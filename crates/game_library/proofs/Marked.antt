-- Marks with one key more, and with many.
use Rattle.std.proofs.Common.{◌≡◌, ℕ, zero, suc, ◌<◌, ◌≤◌, Bool, true, false, List, [], ◌∷◌, ◌++◌, length, get_or, replicate, refl, sym, ap, subst, ◌∙◌, ◌⊎◌, inl, inr, arith, Option, Some, None}
use Rattle.std.specs.Prelude.{◌||◌, Contains, slice_get, nat_lt, max}
use Rattle.std.proofs.Math.ListN.{set}
use Rattle.std.proofs.lemmas.Bool.{false≢true}
use Rattle.std.proofs.lemmas.Bool.Decides.{nat_tests}
use Rattle.std.proofs.lemmas.List.Elements.{Contains-append_left, Contains-append_right, Contains-append_cases}
use Rattle.std.proofs.lemmas.Option.{slice_get_read}
use Rattle.tree_facts.proofs.Members.{contains_first, contains_cases}
use Rattle.flattening.specs.declared.solved.Key.{Key}
use Rattle.flattening.specs.declared.solved.Key.TheVariants.{Call, Win}
use Rattle.game_library.specs.declared.marks.Mark.{Mark}
use Rattle.game_library.specs.Needs.{place_of, NeedsKey, has_moves, is_called, Covers, greatest, with_key, no_marks, IsMarked, Adds}

-- ---- one mark

below_true : (n : ℕ) → nat_lt 0 n ≡ true → 0 < n
below_true n e = grind (arith, nat_tests)

true_below : (n : ℕ) → 0 < n → nat_lt 0 n ≡ true
true_below n less = grind (arith, nat_tests)

or_right : (a b : Bool) → b ≡ true → (a || b) ≡ true
or_right true b e = refl
or_right false b e = e

or_cases : (a b : Bool) → (a || b) ≡ true → (a ≡ true) ⊎ (b ≡ true)
or_cases true b e = inl refl
or_cases false b e = inr e

-- more moves are some moves
more_moves : (moves : Option ℕ) (k : ℕ) → has_moves moves ≡ true → has_moves (Some (greatest moves k)) ≡ true
more_moves None k e = absurd (false≢true e)
more_moves (Some most) k e = let less = below_true most e in true_below (max most k) (omega (arith, less))

or_more : (a : Bool) (moves : Option ℕ) (k : ℕ) → (a || has_moves moves) ≡ true → (a || has_moves (Some (greatest moves k))) ≡ true
or_more true moves k e = refl
or_more false moves k e = more_moves moves k e

in_greatest : (moves : Option ℕ) (k j most : ℕ) → moves ≡ Some most → j ≤ most → j ≤ greatest moves k
in_greatest None k j most e less = absurd (cc)
in_greatest (Some n) k j most e less = let same : n ≡ most = cc in omega (arith, same, less)

last_greatest : (moves : Option ℕ) (k : ℕ) → k ≤ greatest moves k
last_greatest None k = omega arith
last_greatest (Some n) k = omega arith

pub covers_more : (mark : Mark) (key other : Key) → Covers mark other → Covers (with_key mark key) other
covers_more mark (Call p) (Call q) c = refl
covers_more mark (Call p) (Win q j) c = c
covers_more mark (Win p k) (Call q) c = or_more mark.called mark.moves k c
covers_more mark (Win p k) (Win q j) (most, is, less) = (greatest mark.moves k, refl, in_greatest mark.moves k j most is less)

pub covers_it : (mark : Mark) (key : Key) → Covers (with_key mark key) key
covers_it mark (Call p) = refl
covers_it mark (Win p k) = (greatest mark.moves k, refl, last_greatest mark.moves k)

some_moves : (moves : Option ℕ) (k : ℕ) → has_moves (Some (greatest moves k)) ≡ true → (has_moves moves ≡ true) ⊎ (0 < k)
some_moves None k e = inr (below_true k e)
some_moves (Some most) k e = by (below_true (max most k) e)
  where
    split : (a b : ℕ) → 0 < max a b → (0 < a) ⊎ (0 < b)
    split a b less = grind arith

    by : 0 < max most k → (has_moves (Some most) ≡ true) ⊎ (0 < k)
    by less = elim (split most k less) [ inl h ↦ inl (true_below most h) | inr h ↦ inr h ]

or_some : (a : Bool) (moves : Option ℕ) (k : ℕ) → (a || has_moves (Some (greatest moves k))) ≡ true → ((a || has_moves moves) ≡ true) ⊎ (0 < k)
or_some true moves k e = inl refl
or_some false moves k e = some_moves moves k e

within_greatest : (moves : Option ℕ) (k j : ℕ) → j ≤ greatest moves k → ((most : ℕ) × (moves ≡ Some most) × (j ≤ most)) ⊎ (j ≤ k)
within_greatest None k j less = inr less
within_greatest (Some most) k j less = elim (split most k j less) [ inl h ↦ inl (most, refl, h) | inr h ↦ inr h ]
  where
    split : (a b c : ℕ) → c ≤ max a b → (c ≤ a) ⊎ (c ≤ b)
    split a b c less = grind arith

pub covers_only : (mark : Mark) (key other : Key) → place_of key ≡ place_of other → Covers (with_key mark key) other → Covers mark other ⊎ NeedsKey key other
covers_only mark (Call p) (Call q) same c = inr same
covers_only mark (Call p) (Win q j) same c = inl c
covers_only mark (Win p k) (Call q) same c = elim (or_some mark.called mark.moves k c) [ inl h ↦ inl h | inr h ↦ inr (same, h) ]
covers_only mark (Win p k) (Win q j) same (most, is, less) =
    let size : greatest mark.moves k ≡ most = cc in
    elim (within_greatest mark.moves k j (omega (arith, size, less))) [ inl h ↦ inl h | inr h ↦ inr (same, h) ]

-- who asks for moves asks for the predicate
pub moves_call : (mark : Mark) (most : ℕ) → mark.moves ≡ Some most → 0 < most → is_called mark ≡ true
moves_call mark most is less = or_right mark.called (has_moves mark.moves) (ap has_moves is ∙ true_below most less)

-- ---- lists of marks

same_or_not : (a b : ℕ) → (a ≡ b) ⊎ (¬ (a ≡ b))
same_or_not a b = grind arith

got_set : (marks : List Mark) (i j : ℕ) (new m : Mark) → slice_get marks i ≡ Some m → i ≡ j → slice_get (set marks i new) j ≡ Some new
got_set [] zero j new m got same = absurd (cc)
got_set [] (suc i) j new m got same = absurd (cc)
got_set (x ∷ xs) zero zero new m got same = refl
got_set (x ∷ xs) zero (suc j) new m got same = absurd (omega (arith, same))
got_set (x ∷ xs) (suc i) zero new m got same = absurd (omega (arith, same))
got_set (x ∷ xs) (suc i) (suc j) new m got same = got_set xs i j new m got (omega (arith, same))

other_set : (marks : List Mark) (i j : ℕ) (new : Mark) → ¬ (i ≡ j) → slice_get (set marks i new) j ≡ slice_get marks j
other_set [] i j new apart = refl
other_set (x ∷ xs) zero zero new apart = absurd (apart refl)
other_set (x ∷ xs) zero (suc j) new apart = refl
other_set (x ∷ xs) (suc i) zero new apart = refl
other_set (x ∷ xs) (suc i) (suc j) new apart = other_set xs i j new (λ same. apart (ap suc same))

length_set : (marks : List Mark) (i : ℕ) (new : Mark) → length (set marks i new) ≡ length marks
length_set [] i new = refl
length_set (x ∷ xs) zero new = refl
length_set (x ∷ xs) (suc i) new = ap suc (length_set xs i new)

some_mark : (a b : Mark) → ◌≡◌ {A = Option Mark} (Some a) (Some b) → a ≡ b
some_mark a b e = cc

module _ (marks : List Mark) (key : Key) (mark : Mark) (got : slice_get marks (place_of key) ≡ Some mark) where
  abbrev changed : List Mark
  changed = set marks (place_of key) (with_key mark key)

  here : (other : Key) → place_of key ≡ place_of other → slice_get changed (place_of other) ≡ Some (with_key mark key)
  here other same = got_set marks (place_of key) (place_of other) (with_key mark key) mark got same

  kept : (other : Key) → IsMarked marks other → IsMarked changed other
  kept other (m, is, c) = by (same_or_not (place_of key) (place_of other))
    where
      by : (place_of key ≡ place_of other) ⊎ (¬ (place_of key ≡ place_of other)) → IsMarked changed other
      by (inl same) =
          let one : m ≡ mark = some_mark m mark (sym is ∙ ap (slice_get marks) (sym same) ∙ got) in
          (with_key mark key, here other same, covers_more mark key other (subst (λ (m : Mark). Covers m other) one c))
      by (inr apart) = (m, other_set marks (place_of key) (place_of other) (with_key mark key) apart ∙ is, c)

  only : (other : Key) → IsMarked changed other → IsMarked marks other ⊎ ((asked : Key) × Contains (key ∷ []) asked × NeedsKey asked other)
  only other (m, is, c) = by (same_or_not (place_of key) (place_of other))
    where
      by : (place_of key ≡ place_of other) ⊎ (¬ (place_of key ≡ place_of other)) → IsMarked marks other ⊎ ((asked : Key) × Contains (key ∷ []) asked × NeedsKey asked other)
      by (inl same) =
          let one : m ≡ with_key mark key = some_mark m (with_key mark key) (sym is ∙ here other same) in
          elim (covers_only mark key other same (subst (λ (m : Mark). Covers m other) one c)) [
            | inl h ↦ inl (mark, ap (slice_get marks) (sym same) ∙ got, h)
            | inr h ↦ inr (key, contains_first key [], h)
          ]
      by (inr apart) = inl (m, sym (other_set marks (place_of key) (place_of other) (with_key mark key) apart) ∙ is, c)

  pub adds_one : Adds marks changed (key ∷ [])
  adds_one = record {
    size = length_set marks (place_of key) (with_key mark key);
    kept = kept;
    marked = λ other stands within. by other (contains_cases key other [] stands);
    only = only;
  }
    where
      by : (other : Key) → (key ≡ other) ⊎ Contains [] other → IsMarked changed other
      by other (inl same) = subst (λ (k : Key). IsMarked changed k) same (with_key mark key, here key refl, covers_it mark key)
      by other (inr none) = absurd (omega (arith, none.1))

-- the same for a list that is kept, with the mark as it was read and as it is written
pub added : (kept marks : List Mark) (place : ℕ) (key : Key) (mark new : Mark) → kept ≡ marks → mark ≡ get_or kept place mark → new ≡ with_key mark key
    → place < length kept → place_of key ≡ place → Adds marks (set kept place new) (key ∷ [])
added kept marks place key mark new same is made within at =
    let got : slice_get marks (place_of key) ≡ Some mark = rw (at, ← same) (slice_get_read kept (length kept) place mark refl within is) in
    rw (same, made, ← at) (adds_one marks key mark got)

-- beyond the places nothing is marked
pub adds_beyond : (marks : List Mark) (key : Key) → length marks ≤ place_of key → Adds marks marks (key ∷ [])
adds_beyond marks key past = record {
  size = refl;
  kept = λ other m. m;
  marked = λ other stands within. by other within (contains_cases key other [] stands);
  only = λ other m. inl m;
}
  where
    by : (other : Key) → place_of other < length marks → (key ≡ other) ⊎ Contains [] other → IsMarked marks other
    by other within (inl same) = let place : place_of key ≡ place_of other = ap place_of same in absurd (omega (arith, within, place, past))
    by other within (inr none) = absurd (omega (arith, none.1))

pub adds_none : (marks : List Mark) → Adds marks marks []
adds_none marks = record { size = refl; kept = λ other m. m; marked = λ other stands within. absurd (omega (arith, stands.1)); only = λ other m. inl m }

pub adds_then : (a b c : List Mark) (first second : List Key) → Adds a b first → Adds b c second → Adds a c (first ++ second)
adds_then a b c first second one two = record {
  size = two.size ∙ one.size;
  kept = λ key m. two.kept key (one.kept key m);
  marked = λ key stands within. elim (Contains-append_cases first second key stands) [
    | inl h ↦ two.kept key (one.marked key h within)
    | inr h ↦ two.marked key h (omega (arith, within, one.size))
  ];
  only = λ key m. elim (two.only key m) [
    | inl h ↦ elim (one.only key h) [
      | inl i ↦ inl i
      | inr (asked, stands, needs) ↦ inr (asked, Contains-append_left first second asked stands, needs)
    ]
    | inr (asked, stands, needs) ↦ inr (asked, Contains-append_right first second asked stands, needs)
  ];
}

-- ---- nothing is marked at first

nothing_covered : (key : Key) → ¬ Covers (record { called = false; moves = None }) key
nothing_covered (Call p) c = false≢true c
nothing_covered (Win p k) (most, is, less) = absurd (cc is)

got_replicate : (n i : ℕ) (a m : Mark) → slice_get (replicate n a) i ≡ Some m → a ≡ m
got_replicate zero zero a m got = absurd (cc)
got_replicate zero (suc i) a m got = absurd (cc)
got_replicate (suc n) zero a m got = some_mark a m got
got_replicate (suc n) (suc i) a m got = got_replicate n i a m got

pub nothing_marked : (n : ℕ) (key : Key) → ¬ IsMarked (no_marks n) key
nothing_marked n key (m, is, c) =
    nothing_covered key (subst (λ (m : Mark). Covers m key) (sym (got_replicate n (place_of key) (record { called = false; moves = None }) m is)) c)
