-- The names of a statement, and how often each is bound, as names are added, bound and released.
use Rattle.std.proofs.Common.{◌≡◌, ℕ, ◌+◌, ◌-◌, ◌<◌, ◌≤◌, Bool, true, false, cond, ◌||◌, nat_eq, nat_lt, List, [], ◌∷◌, ◌++◌, length, map, set, take, drop, slice_index, slice_index_or, Option, Some, None, refl, sym, ap, subst, ◌∙◌, arith, All, ◌⊎◌, inl, inr, length-append, zero-add, add_assoc}
use Rattle.std.specs.Prelude.{position}
use Rattle.std.specs.Str.{bytes_eq}
use Rattle.std.proofs.Math.Nat.{eq-or-lt_of_le}
use Rattle.std.proofs.lemmas.Bool.{false≢true}
use Rattle.std.proofs.lemmas.Bool.Decides.{nat_tests}
use Rattle.std.proofs.lemmas.Grind.{get_or-set_at, get_or_default_zero}
use Rattle.std.proofs.lemmas.List.{get_or_append_left, get_or_push, get_or-set_other, length-set, length-take-le, take-take, drop-map, map-append}
use Rattle.std.proofs.lemmas.List.Elements.{All-nil, All-cons, All-head, All-tail, All-append, All-weaker, All-contains, All-drop, Contains-push}
use Rattle.std.proofs.lemmas.List.Quantifiers.{position-Some}
use Rattle.std.proofs.lemmas.Option.{none-some, same_Some}
use Rattle.std.proofs.lemmas.Slice.Eq.{bytes_eq-Decides}
use Rattle.formula_grammar.specs.Written.{Text}
use Rattle.formula_grammar.specs.Checks.{is_among}
use Rattle.formula_grammar.specs.Meaning.{number_in, first_occurrences}
use Rattle.formula_reader.specs.Scopes.{name_at, scope_of, times, IsCounted}
use Rattle.formula_reader.specs.Input.{Scope}
use Rattle.formula_reader.proofs.Numbers.{number_kept, found_kept, found_new, added_last}

all_front : {X : Type 0} (P : X → Type 0) (xs ys : List X) → All P (xs ++ ys) → All P xs
all_front P [] ys all = All-nil P
all_front P (x ∷ xs) ys all = All-cons P x xs (All-head P x (xs ++ ys) all) (all_front P xs ys (All-tail P x (xs ++ ys) all))

abbrev pub scope_with : List Text → List Text → Scope
scope_with names bound = record { names = names; bound = bound }

abbrev IsNumber : List Text → ℕ → Type 0
IsNumber names n = position (λ other. bytes_eq other (name_at names n)) names ≡ Some n

-- the number of a name is below that of names
number_within : (names : List Text) (n : ℕ) → IsNumber names n → n < length names
number_within names n is = (position-Some (λ other. bytes_eq other (name_at names n)) names n (name_at names n) is).0

-- names that are added change no number
name_stays : (names more : List Text) (n : ℕ) → n < length names → name_at (names ++ more) n ≡ name_at names n
name_stays names more n within = get_or_append_left names more [] n within

number_stays : (names more : List Text) (n : ℕ) → IsNumber names n → IsNumber (names ++ more) n
number_stays names more n is =
    subst (λ (x : Text). position (λ other. bytes_eq other x) (names ++ more) ≡ Some n) (sym (name_stays names more n (number_within names n is)))
    (found_kept names (name_at names n) n is more)

names_stay : (names more : List Text) (bound : List ℕ) → All (IsNumber names) bound → map (name_at (names ++ more)) bound ≡ map (name_at names) bound
names_stay names more [] all = refl
names_stay names more (n ∷ bound) all =
    ap (λ x. x ∷ map (name_at (names ++ more)) bound) (name_stays names more n (number_within names n (All-head (IsNumber names) n bound all)))
    ∙ ap (λ xs. name_at names n ∷ xs) (names_stay names more bound (All-tail (IsNumber names) n bound all))

-- ---- the numbers of the names that are bound

pub numbers_of : (names more : List Text) (bound : List ℕ) → All (IsNumber names) bound → bound ≡ map (number_in (names ++ more)) (map (name_at names) bound)
numbers_of names more [] all = refl
numbers_of names more (n ∷ bound) all =
    ap (λ k. k ∷ bound) (sym (number_kept names (name_at names n) n (All-head (IsNumber names) n bound all) more))
    ∙ ap (λ ks. number_in (names ++ more) (name_at names n) ∷ ks) (numbers_of names more bound (All-tail (IsNumber names) n bound all))

-- ---- whether a name is bound

module _ (names : List Text) (x : Text) where
  -- a name is another one's where both have the same number
  one_number : (n m : ℕ) → position (λ other. bytes_eq other x) names ≡ Some n → IsNumber names m → bytes_eq (name_at names m) x ≡ true → m ≡ n
  one_number n m found is same =
      let at : name_at names m ≡ x = (bytes_eq-Decides (name_at names m) x).0 same in
      same_Some m n (sym (subst (λ (y : Text). position (λ other. bytes_eq other y) names ≡ Some m) at is) ∙ found)

  found_name : (n : ℕ) → position (λ other. bytes_eq other x) names ≡ Some n → bytes_eq (name_at names n) x ≡ true
  found_name n found =
      let at = position-Some (λ other. bytes_eq other x) names n [] found in at.1

  -- a name with a number is bound where it is counted
  pub among_counted : (n : ℕ) → position (λ other. bytes_eq other x) names ≡ Some n → (bound : List ℕ) → All (IsNumber names) bound
      → is_among x (map (name_at names) bound) ≡ nat_lt 0 (times n bound)
  among_counted n found [] all = refl
  among_counted n found (m ∷ bound) all = by (nat_eq n m) (bytes_eq (name_at names m) x) refl refl (among_counted n found bound (All-tail (IsNumber names) m bound all))
    where
      by : (b c : Bool) → nat_eq n m ≡ b → bytes_eq (name_at names m) x ≡ c → is_among x (map (name_at names) bound) ≡ nat_lt 0 (times n bound)
          → (c || is_among x (map (name_at names) bound)) ≡ nat_lt 0 (cond b 1 0 + times n bound)
      by true true e f rest = grind (arith, nat_tests)
      by false false e f rest = rest ∙ ap (λ k. nat_lt 0 k) (sym (zero-add (times n bound)))
      by true false e f rest =
          let is : m ≡ n = grind (arith, nat_tests) in
          absurd (false≢true (sym f ∙ ap (λ k. bytes_eq (name_at names k) x) is ∙ found_name n found))
      by false true e f rest =
          let is : m ≡ n = one_number n m found (All-head (IsNumber names) m bound all) f in
          absurd (false≢true (sym e ∙ grind (arith, nat_tests)))

  -- a name with none is not
  pub among_none : position (λ other. bytes_eq other x) names ≡ None → (bound : List ℕ) → All (IsNumber names) bound → is_among x (map (name_at names) bound) ≡ false
  among_none absent [] all = refl
  among_none absent (m ∷ bound) all = by (bytes_eq (name_at names m) x) refl (among_none absent bound (All-tail (IsNumber names) m bound all))
    where
      by : (c : Bool) → bytes_eq (name_at names m) x ≡ c → is_among x (map (name_at names) bound) ≡ false → (c || is_among x (map (name_at names) bound)) ≡ false
      by false f rest = rest
      by true f rest =
          let at : name_at names m ≡ x = (bytes_eq-Decides (name_at names m) x).0 f in
          absurd (none-some m (sym absent ∙ subst (λ (y : Text). position (λ other. bytes_eq other y) names ≡ Some m) at (All-head (IsNumber names) m bound all)))

-- ---- counts

last_or_before : (k n : ℕ) → k ≤ n → (k ≡ n) ⊎ (k < n)
last_or_before k n le = eq-or-lt_of_le le

count_push : (n m : ℕ) (bound : List ℕ) → times n (bound ++ m ∷ []) ≡ times n bound + cond (nat_eq n m) 1 0
count_push n m [] = omega arith
count_push n m (k ∷ bound) = ap (λ j. cond (nat_eq n k) 1 0 + j) (count_push n m bound) ∙ sym (add_assoc (cond (nat_eq n k) 1 0) (times n bound) (cond (nat_eq n m) 1 0))

one_small : (b : Bool) → cond b 1 0 ≤ 1
one_small true = omega arith
one_small false = omega arith

times_small : (n : ℕ) (bound : List ℕ) → times n bound ≤ length bound
times_small n [] = omega arith
times_small n (m ∷ bound) = omega (arith, one_small (nat_eq n m), times_small n bound)

none_counted : (n : ℕ) (bound : List ℕ) → All (λ m. m < n) bound → times n bound ≡ 0
none_counted n [] all = refl
none_counted n (m ∷ bound) all =
    let within : m < n = All-head (λ k. k < n) m bound all in
    let other : nat_eq n m ≡ false = grind (arith, nat_tests) in
    ap (λ b. cond b 1 0 + times n bound) other ∙ zero-add (times n bound) ∙ none_counted n bound (All-tail (λ k. k < n) m bound all)

module _ (names : List Text) (counts bound : List ℕ) (is : IsCounted names counts bound) where
  -- one more count, of a number that no name has
  pub count_more : IsCounted names (counts ++ 0 ∷ []) bound
  count_more = record {
    enough = omega (arith, is.enough, length-append counts (0 ∷ []));
    numbers = is.numbers;
    counted = λ n within. by n (last_or_before n (length counts) (omega (arith, within, length-append counts (0 ∷ []))));
  }
    where
      by : (n : ℕ) → (n ≡ length counts) ⊎ (n < length counts) → slice_index (counts ++ 0 ∷ []) n ≡ times n bound
      by n (inl last) =
          get_or_push counts 0 0 n (sym last)
          ∙ sym (none_counted n bound (All-weaker (IsNumber names) (λ m. m < n) (λ m number. omega (arith, last, is.enough, number_within names m number)) bound is.numbers))
      by n (inr earlier) = get_or_append_left counts (0 ∷ []) 0 n earlier ∙ is.counted n earlier

  -- one more name, for which there is a count
  pub name_more : (x : Text) → length names < length counts → IsCounted (names ++ x ∷ []) counts bound
  name_more x room = record {
    enough = omega (arith, room, length-append names (x ∷ []));
    numbers = All-weaker (IsNumber names) (IsNumber (names ++ x ∷ [])) (λ n number. number_stays names (x ∷ []) n number) bound is.numbers;
    counted = is.counted;
  }

  -- one more name that is bound
  pub bind_one : (n : ℕ) → IsNumber names n → IsCounted names (set counts n (slice_index counts n + 1)) (bound ++ n ∷ [])
  bind_one n number = record {
    enough = omega (arith, is.enough, length-set counts n (slice_index counts n + 1));
    numbers = All-append (IsNumber names) bound (n ∷ []) is.numbers (All-cons (IsNumber names) n [] number (All-nil (IsNumber names)));
    counted = λ k within. by k (omega (arith, within, length-set counts n (slice_index counts n + 1))) (nat_eq k n) refl;
  }
    where
      by : (k : ℕ) → k < length counts → (b : Bool) → nat_eq k n ≡ b → slice_index (set counts n (slice_index counts n + 1)) k ≡ times k (bound ++ n ∷ [])
      by k within true e =
          let at : k ≡ n = grind (arith, nat_tests) in
          get_or-set_at counts n k (slice_index counts n + 1) 0 at (omega (arith, at, within))
          ∙ ap (λ j. slice_index counts j + 1) (sym at) ∙ ap (λ j. j + 1) (is.counted k within)
          ∙ sym (count_push k n bound ∙ ap (λ b. times k bound + cond b 1 0) e)
      by k within false e =
          get_or-set_other counts n k (slice_index counts n + 1) 0 (λ at. false≢true (sym e ∙ grind (arith, nat_tests)))
          ∙ is.counted k within
          ∙ sym (count_push k n bound ∙ ap (λ b. times k bound + cond b 1 0) e ∙ omega arith)

  -- a bound name is counted
  pub count_small : (n : ℕ) → n < length counts → slice_index counts n ≤ length bound
  count_small n within = omega (arith, is.counted n within, times_small n bound)

-- the innermost is released
module _ (names : List Text) (counts bound : List ℕ) (n : ℕ) (is : IsCounted names counts (bound ++ n ∷ [])) where
  pub innermost : IsNumber names n
  innermost = All-contains (IsNumber names) (bound ++ n ∷ []) n is.numbers (Contains-push bound n)

  pub innermost_within : n < length counts
  innermost_within = omega (arith, is.enough, number_within names n innermost)

  self_equal : nat_eq n n ≡ true
  self_equal = grind (arith, nat_tests)

  pub innermost_counted : 1 ≤ slice_index counts n
  innermost_counted = omega (arith, is.counted n innermost_within, count_push n n bound, ap {B = ℕ} (λ b. cond b 1 0) self_equal)

  pub release : IsCounted names (set counts n (slice_index counts n - 1)) bound
  release = record {
    enough = omega (arith, is.enough, length-set counts n (slice_index counts n - 1));
    numbers = all_front (IsNumber names) bound (n ∷ []) is.numbers;
    counted = λ k within. by k (omega (arith, within, length-set counts n (slice_index counts n - 1))) (nat_eq k n) refl;
  }
    where
      by : (k : ℕ) → k < length counts → (b : Bool) → nat_eq k n ≡ b → slice_index (set counts n (slice_index counts n - 1)) k ≡ times k bound
      by k within true e =
          let at : k ≡ n = grind (arith, nat_tests) in
          let one : slice_index counts k ≡ times k bound + 1 = is.counted k within ∙ count_push k n bound ∙ ap (λ b. times k bound + cond b 1 0) e in
          get_or-set_at counts n k (slice_index counts n - 1) 0 at (omega (arith, at, within))
          ∙ ap (λ j. slice_index counts j - 1) (sym at) ∙ omega (arith, one)
      by k within false e =
          get_or-set_other counts n k (slice_index counts n - 1) 0 (λ at. false≢true (sym e ∙ grind (arith, nat_tests)))
          ∙ is.counted k within ∙ count_push k n bound ∙ ap (λ b. times k bound + cond b 1 0) e ∙ omega arith

-- ---- what is shown of the names

-- a name at its number
pub number_of : (names : List Text) (x : Text) (n : ℕ) → position (λ other. bytes_eq other x) names ≡ Some n → IsNumber names n
number_of names x n found =
    subst (λ (y : Text). position (λ other. bytes_eq other y) names ≡ Some n) (sym ((bytes_eq-Decides (name_at names n) x).0 (found_name names x n found))) found

module _ (names : List Text) (counts bound : List ℕ) (is : IsCounted names counts bound) where
  counts_within : (n : ℕ) → IsNumber names n → n < length counts
  counts_within n number = omega (arith, is.enough, number_within names n number)

  -- whether a name is bound
  shows_bound : (x : Text) (n : ℕ) → position (λ other. bytes_eq other x) names ≡ Some n → (value : ℕ) → value ≡ slice_index_or counts n value
      → nat_lt 0 value ≡ is_among x (map (name_at names) bound)
  shows_bound x n found value at =
      let within = counts_within n (number_of names x n found) in
      ap (λ k. nat_lt 0 k) (at ∙ get_or_default_zero counts n value within ∙ is.counted n within) ∙ sym (among_counted names x n found bound is.numbers)

  -- what is shown, as it is named by the caller
  module _ (S : Scope) (shows : scope_of names bound ≡ S) where
    names_are : names ≡ S.names
    names_are = ap (λ (T : Scope). T.names) shows

    found_in : (x : Text) (o : Option ℕ) → o ≡ position (λ other. bytes_eq other x) S.names → position (λ other. bytes_eq other x) names ≡ o
    found_in x o found = ap (λ l. position (λ other. bytes_eq other x) l) names_are ∙ sym found

    pub bound_there : (x : Text) (n : ℕ) → Some n ≡ position (λ other. bytes_eq other x) S.names → (value : ℕ) → value ≡ slice_index_or counts n value
        → nat_lt 0 value ≡ is_among x S.bound
    bound_there x n found value at = shows_bound x n (found_in x (Some n) found) value at ∙ ap (λ (T : Scope). is_among x T.bound) shows

    pub bound_nowhere : (x : Text) → None ≡ position (λ other. bytes_eq other x) S.names → false ≡ is_among x S.bound
    bound_nowhere x absent = sym (among_none names x (found_in x None absent) bound is.numbers) ∙ ap (λ (T : Scope). is_among x T.bound) shows

    pub numbers_behind : (outer : ℕ) (more : List Text) → drop outer bound ≡ map (number_in (S.names ++ more)) (drop outer S.bound)
    numbers_behind outer more =
        numbers_of names more (drop outer bound) (All-drop (IsNumber names) outer bound is.numbers)
        ∙ ap (map (number_in (names ++ more))) (sym (drop-map (name_at names) outer bound))
        ∙ ap (λ (T : Scope). map (number_in (T.names ++ more)) (drop outer T.bound)) shows

    -- one more name
    module _ (x : Text) (absent : None ≡ position (λ other. bytes_eq other x) S.names) (new : List Text) (added : new ≡ first_occurrences names (x ∷ [])) where
      last : new ≡ names ++ x ∷ []
      last = added ∙ added_last names x (found_in x None absent)

      pub shows_named : scope_of new bound ≡ record { names = first_occurrences S.names (x ∷ []); bound = S.bound }
      shows_named =
          ap (λ (xs : List Text). scope_with new xs) (ap (λ (l : List Text). map (name_at l) bound) last ∙ names_stay names (x ∷ []) bound is.numbers)
          ∙ ap (λ (l : List Text). scope_with l (map (name_at names) bound)) added
          ∙ ap (λ (T : Scope). scope_with (first_occurrences T.names (x ∷ [])) T.bound) shows

      pub found_last : position (λ other. bytes_eq other x) new ≡ Some (length names)
      found_last = ap (λ l. position (λ other. bytes_eq other x) l) last ∙ found_new names x (found_in x None absent)

      pub counted_last : (items : List ℕ) → items ≡ counts ++ 0 ∷ [] → IsCounted new items bound
      counted_last items items_are =
          subst (λ (l : List Text). IsCounted l items bound) (sym last)
          (subst (λ (l : List ℕ). IsCounted (names ++ x ∷ []) l bound) (sym items_are)
          (name_more names (counts ++ 0 ∷ []) bound (count_more names counts bound is) x (omega (arith, is.enough, length-append counts (0 ∷ [])))))

    -- a name that is there is bound
    pub shows_bound_one : (x : Text) (n : ℕ) → position (λ other. bytes_eq other x) S.names ≡ Some n → scope_of names (bound ++ n ∷ []) ≡ record { names = S.names; bound = S.bound ++ x ∷ [] }
    shows_bound_one x n found =
        ap (λ (xs : List Text). scope_with names xs)
        (map-append (name_at names) bound (n ∷ []) ∙ ap (λ y. map (name_at names) bound ++ y ∷ []) ((bytes_eq-Decides (name_at names n) x).0 (found_name names x n (found_in x (Some n) (sym found)))))
        ∙ ap (λ (T : Scope). scope_with T.names (T.bound ++ x ∷ [])) shows

    -- where a name is found, its count is there, and small
    module _ (x : Text) (n : ℕ) (found : position (λ other. bytes_eq other x) S.names ≡ Some n) where
      pub bound_within : n < length counts
      bound_within = counts_within n (number_of names x n (found_in x (Some n) (sym found)))

      module _ (value : ℕ) (at : value ≡ slice_index_or counts n value) where
        bound_value : value ≡ slice_index counts n
        bound_value = at ∙ get_or_default_zero counts n value bound_within

        pub bound_small : value ≤ length bound
        bound_small = omega (arith, bound_value, count_small names counts bound is n bound_within)

        pub bind_found : IsCounted names (set counts n (value + 1)) (bound ++ n ∷ [])
        bind_found =
            subst (λ (k : ℕ). IsCounted names (set counts n (k + 1)) (bound ++ n ∷ [])) (sym bound_value)
            (bind_one names counts bound is n (number_of names x n (found_in x (Some n) (sym found))))

-- the innermost name's count, when it is released
module _ (names : List Text) (counts bound : List ℕ) (n : ℕ) (is : IsCounted names counts (bound ++ n ∷ [])) (value : ℕ) (at : value ≡ slice_index_or counts n value) where
  released_is : value ≡ slice_index counts n
  released_is = at ∙ get_or_default_zero counts n value (innermost_within names counts bound n is)

  pub released_value : 1 ≤ value
  released_value = omega (arith, released_is, innermost_counted names counts bound n is)

  pub release_found : IsCounted names (set counts n (value - 1)) bound
  release_found = subst (λ (k : ℕ). IsCounted names (set counts n (k - 1)) bound) (sym released_is) (release names counts bound n is)

-- ---- what stays bound when the innermost are released

pub shorter : (bound : List Text) → 1 ≤ length bound → length (take (length bound - 1) bound) < length bound
shorter bound some = omega (arith, length-take-le (length bound - 1) bound (omega arith))

pub released_on : (whole bound new : List Text) → bound ≡ take (length bound) whole → new ≡ take (length bound - 1) bound → 1 ≤ length bound → length bound ≤ length whole
    → new ≡ take (length new) whole
released_on whole bound new front is some within =
    let long : length new ≡ length bound - 1 = ap (λ (l : List Text). length l) is ∙ length-take-le (length bound - 1) bound (omega arith) in
    is ∙ ap (take (length bound - 1)) front ∙ take-take (length bound - 1) (length bound) whole (omega arith) ∙ ap (λ n. take n whole) (sym long)

pub released_to : (outer : ℕ) (whole bound : List Text) → bound ≡ take (length bound) whole → length bound ≡ outer → bound ≡ take outer whole
released_to outer whole bound front is = front ∙ ap (λ n. take n whole) is
