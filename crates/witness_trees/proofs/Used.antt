-- Which numbers are used, and which variables are open, read off one by one.
use Rattle.std.proofs.Common.{◌≡◌, ◌==◌, ℕ, zero, suc, ◌+◌, ◌<◌, ◌≤◌, Bool, true, false, cond, ◌||◌, List, [], ◌∷◌, ◌++◌, length, filter, get_or, refl, sym, ap, subst, ◌∙◌, ◌⊎◌, inl, inr, arith}
use Rattle.std.specs.Prelude.{All, Contains, slice_index, slice_index_or, slice_set}
use Rattle.std.specs.List.{range_with_len, list_any}
use Rattle.std.proofs.lemmas.Bool.{cases_eq, eq-eqb, ne_eqb}
use Rattle.std.proofs.lemmas.List.{append-nil, get_or-set_same, get_or-set_other, get_or_past, length-set}
use Rattle.std.proofs.lemmas.List.Elements.{filter-append, All-weaker}
use Rattle.std.proofs.lemmas.List.Folds.{list_any-append}
use Rattle.lists.specs.Distinct.{IsDistinct}
use Rattle.formula_ast.proofs.Standing.{contained, from_contained}
use Rattle.flat_form.specs.Orders.{place_of}
use Rattle.numbering.proofs.Numbers.{lt_or_le, item_in, apart_at, place_at, place_low}
use Rattle.witness_trees.proofs.Occurring.{OnePlace, contained_all, range_in, range_one_place}
use Rattle.witness_trees.proofs.Taken.{filter_has, filter_one_place}

-- ---- used numbers

-- the flags tell of each number below the size whether it is among these
abbrev pub Tells : ℕ → List Bool → List ℕ → Type 0
Tells size flags seen = (j : ℕ) → j < size → slice_index_or flags j false ≡ list_any (λ u. u == j) seen

or_true : (b c : Bool) → c ≡ true → (b || (c || false)) ≡ true
or_true true c e = refl
or_true false c e = ap (λ d. d || false) e

or_false : (b c : Bool) → c ≡ false → (b || (c || false)) ≡ b
or_false true c e = refl
or_false false c e = ap (λ d. d || false) e

pub tells_more : (size : ℕ) (flags : List Bool) (seen : List ℕ) (k : ℕ) → length flags ≡ size → k < size → Tells size flags seen
    → Tells size (slice_set flags k true) (seen ++ k ∷ [])
tells_more size flags seen k long low tells j w = by (cases_eq k j)
  where
    by : (k ≡ j) ⊎ (k ≡ j → ⊥) → slice_index_or (slice_set flags k true) j false ≡ list_any (λ u. u == j) (seen ++ k ∷ [])
    by (inl e) =
        ap (λ i. slice_index_or (slice_set flags k true) i false) (sym e) ∙ get_or-set_same flags k true false (omega (arith, long, low))
        ∙ sym (list_any-append (λ u. u == j) seen (k ∷ []) ∙ or_true (list_any (λ u. u == j) seen) (k == j) (eq-eqb k j e))
    by (inr differ) =
        get_or-set_other flags k j true false (λ e. differ (sym e)) ∙ tells j w
        ∙ sym (list_any-append (λ u. u == j) seen (k ∷ []) ∙ or_false (list_any (λ u. u == j) seen) (k == j) (ne_eqb k j differ))

pub tells_still : (size : ℕ) (flags : List Bool) (seen : List ℕ) (k : ℕ) → size ≤ k → Tells size flags seen → Tells size flags (seen ++ k ∷ [])
tells_still size flags seen k past tells j w =
    tells j w
    ∙ sym (list_any-append (λ u. u == j) seen (k ∷ []) ∙ or_false (list_any (λ u. u == j) seen) (k == j) (ne_eqb k j (λ e. absurd (omega (arith, e, past, w)))))

-- ---- numbers that pass a test

range_more : (a n : ℕ) → range_with_len a (n + 1) ≡ range_with_len a n ++ (a + n) ∷ []
range_more a zero = let e : a ≡ a + 0 = omega arith in ap (λ k. k ∷ []) e
range_more a (suc n) =
    let e : suc n + 1 ≡ suc (n + 1) = omega arith in
    let f : a + 1 + n ≡ a + suc n = omega arith in
    ap (range_with_len a) e ∙ ap (λ l. a ∷ l) (range_more (a + 1) n ∙ ap (λ k. range_with_len (a + 1) n ++ k ∷ []) f)

filtered_more : (p : ℕ → Bool) (n : ℕ) → filter p (range_with_len 0 (n + 1)) ≡ filter p (range_with_len 0 n) ++ cond (p n) (n ∷ []) []
filtered_more p n =
    let e : 0 + n ≡ n = omega arith in
    ap (filter p) (range_more 0 n ∙ ap (λ k. range_with_len 0 n ++ k ∷ []) e) ∙ filter-append p (range_with_len 0 n) (n ∷ [])

pub filter_pass : (p : ℕ → Bool) (n : ℕ) (xs : List ℕ) → p n ≡ true → xs ≡ filter p (range_with_len 0 n) → xs ++ n ∷ [] ≡ filter p (range_with_len 0 (n + 1))
filter_pass p n xs t e =
    ap (λ l. l ++ n ∷ []) e ∙ sym (filtered_more p n ∙ ap (λ b. filter p (range_with_len 0 n) ++ cond b (n ∷ []) []) t)

pub filter_skip : (p : ℕ → Bool) (n : ℕ) (xs : List ℕ) → p n ≡ false → xs ≡ filter p (range_with_len 0 n) → xs ≡ filter p (range_with_len 0 (n + 1))
filter_skip p n xs t e =
    e ∙ sym (filtered_more p n ∙ ap (λ b. filter p (range_with_len 0 n) ++ cond b (n ∷ []) []) t ∙ append-nil (filter p (range_with_len 0 n)))

pub filtered_low : (p : ℕ → Bool) (n : ℕ) → All (λ v. v < n) (filter p (range_with_len 0 n))
filtered_low p n =
    All-weaker (Contains (filter p (range_with_len 0 n))) (λ v. v < n)
    (λ v c. omega (arith, (range_in 0 n v (contained v (range_with_len 0 n) (filter_has p (range_with_len 0 n) v (from_contained v (filter p (range_with_len 0 n)) c)).1)).1))
    (filter p (range_with_len 0 n)) (contained_all (filter p (range_with_len 0 n)))

distinct_of : (xs : List ℕ) → OnePlace xs → IsDistinct xs
unfolding OnePlace
distinct_of [] one = tt
distinct_of (x ∷ xs) one = (λ c. one.0 (from_contained x xs c), distinct_of xs one.1)

pub filtered_distinct : (p : ℕ → Bool) (n : ℕ) → IsDistinct (filter p (range_with_len 0 n))
filtered_distinct p n = distinct_of (filter p (range_with_len 0 n)) (filter_one_place p (range_with_len 0 n) (range_one_place 0 n))

-- ---- the table of indexes

-- the indexes of the first i open variables are noted, and those that are not open have none
pub record AreNoted (count : ℕ) (opens free indexes : List ℕ) (i : ℕ) : Type 0 where
  pub size : length indexes ≡ count
  pub noted : (j : ℕ) → j < i → slice_index indexes (slice_index opens j) ≡ slice_index free j
  pub others : (v : ℕ) → v < count → ¬ Contains opens v → slice_index indexes v ≡ 0

module _ (count : ℕ) (opens free : List ℕ) (distinct : IsDistinct opens) (low : All (λ v. v < count) opens) where
  pub note_more : (indexes : List ℕ) (i : ℕ) → i < length opens → AreNoted count opens free indexes i
      → AreNoted count opens free (slice_set indexes (slice_index opens i) (slice_index free i)) (i + 1)
  note_more indexes i w are = record {
    size = length-set indexes (slice_index opens i) (slice_index free i) ∙ are.size;
    noted = λ j less. elim (lt_or_le j i) [
      | inl before ↦
          get_or-set_other indexes (slice_index opens i) (slice_index opens j) (slice_index free i) 0 (apart_at opens distinct j i before w) ∙ are.noted j before
      | inr past ↦
          let same : j ≡ i = omega (arith, less, past) in
          ap (λ k. slice_index (slice_set indexes (slice_index opens i) (slice_index free i)) (slice_index opens k)) same
          ∙ get_or-set_same indexes (slice_index opens i) (slice_index free i) 0 (omega (arith, are.size, low i 0 w)) ∙ ap (λ k. slice_index free k) (sym same)
    ];
    others = λ v less none.
        get_or-set_other indexes (slice_index opens i) v (slice_index free i) 0 (λ e. none (subst (Contains opens) (sym e) (item_in opens i w))) ∙ are.others v less none;
  }

  pub all_noted : (indexes : List ℕ) → length free ≡ length opens → AreNoted count opens free indexes (length opens)
      → (v : ℕ) → v < count → slice_index indexes v ≡ get_or free (place_of opens v) 0
  all_noted indexes long are v w = elim (lt_or_le (place_of opens v) (length opens)) [
    | inl there ↦ ap (λ u. slice_index indexes u) (sym (place_at opens v there)) ∙ are.noted (place_of opens v) there
    | inr past ↦ are.others v w (λ c. omega (arith, past, place_low opens v c)) ∙ sym (get_or_past free (place_of opens v) 0 (omega (arith, long, past)))
  ]
