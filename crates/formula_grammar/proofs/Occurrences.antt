-- The names of variables by first occurrence: they are distinct, each variable is among them, and its number is below theirs.
use Rattle.std.proofs.Common.{length-append, ◌≡◌, ℕ, zero, suc, ◌+◌, ◌<◌, ◌⊎◌, inl, inr, Bool, true, false, cond, not, ◌||◌, List, [], ◌∷◌, ◌++◌, length, Some, None, slice_get, bytes_eq, refl, sym, ◌∙◌, ap, subst, arith, append_assoc, append-nil, lt-ltb, if◌then◌else◌}
use Rattle.std.specs.Prelude.{unwrap_or}
use Rattle.std.specs.List.{list_any, position_or_len}
use Rattle.std.proofs.lemmas.List.Folds.{list_any-append}
use Rattle.std.proofs.lemmas.Slice.Eq.{bytes_eq-Decides}
use Rattle.formula_grammar.specs.Written.{Text}
use Rattle.formula_grammar.specs.Checks.{is_among}
use Rattle.formula_ast.specs.WellFormed.{AreDistinct}
use Rattle.formula_grammar.specs.Meaning.{first_occurrences, number_in}
use Rattle.formula_grammar.proofs.WrittenWords.{AreVariables, join}

-- each of these is among the names
abbrev pub AreAmong : List Text → List Text → Type 0
AreAmong names [] = Unit {0}
AreAmong names (x ∷ xs) = (is_among x names ≡ true) × AreAmong names xs

pub among_left : (names xs ys : List Text) → AreAmong names (xs ++ ys) → AreAmong names xs
among_left names [] ys a = tt
among_left names (x ∷ xs) ys a = (a.0, among_left names xs ys a.1)

pub among_right : (names xs ys : List Text) → AreAmong names (xs ++ ys) → AreAmong names ys
among_right names [] ys a = a
among_right names (x ∷ xs) ys a = among_right names xs ys a.1

same_text : (x : Text) → bytes_eq x x ≡ true
same_text x = (bytes_eq-Decides x x).1 refl

or_true : (a b : Bool) → (a || b) ≡ true → (a ≡ true) ⊎ (b ≡ true)
or_true true b e = inl refl
or_true false b e = inr e

or_false : (a b : Bool) → (a || b) ≡ false → (a ≡ false) × (b ≡ false)
or_false true b e = absurd (cc e)
or_false false b e = (refl, e)

or_left : (a b : Bool) → a ≡ true → (a || b) ≡ true
or_left a b e = rw e refl

or_right : (a b : Bool) → b ≡ true → (a || b) ≡ true
or_right true b e = refl
or_right false b e = e

among_append : (x : Text) (xs ys : List Text) → is_among x (xs ++ ys) ≡ (is_among x xs || is_among x ys)
among_append x xs ys = list_any-append (λ y. bytes_eq y x) xs ys

-- what is among two lists behind one another is among one of them
pub among_one : (x : Text) (xs ys : List Text) → is_among x (xs ++ ys) ≡ true → (is_among x xs ≡ true) ⊎ (is_among x ys ≡ true)
among_one x xs ys e = or_true (is_among x xs) (is_among x ys) (sym (among_append x xs ys) ∙ e)

-- ---- one more variable

abbrev noted : Bool → List Text → Text → List Text
noted b seen x = if b then seen else seen ++ x ∷ []

still_there : (b : Bool) (seen : List Text) (x y : Text) → is_among y seen ≡ true → is_among y (noted b seen x) ≡ true
still_there true seen x y h = h
still_there false seen x y h = among_append y seen (x ∷ []) ∙ or_left (is_among y seen) (is_among y (x ∷ [])) h

now_there : (b : Bool) (seen : List Text) (x : Text) → is_among x seen ≡ b → is_among x (noted b seen x) ≡ true
now_there true seen x h = h
now_there false seen x h =
    among_append x seen (x ∷ []) ∙ or_right (is_among x seen) (is_among x (x ∷ [])) (or_left (bytes_eq x x) false (same_text x))

noted_begins : (b : Bool) (seen : List Text) (x : Text) → (ys : List Text) × (noted b seen x ≡ seen ++ ys)
noted_begins true seen x = ([], sym (append-nil seen))
noted_begins false seen x = (x ∷ [], refl)

noted_variables : (b : Bool) (seen : List Text) (x : Text) → AreVariables seen → AreVariables (x ∷ []) → AreVariables (noted b seen x)
noted_variables true seen x a h = a
noted_variables false seen x a h = join seen (x ∷ []) a h

-- what stands in a list behind which one more stands
pub push_cases : {A : Type 0} (xs : List A) (x : A) (i : ℕ) (y : A) → slice_get (xs ++ x ∷ []) i ≡ Some y
    → (slice_get xs i ≡ Some y) ⊎ ((i ≡ length xs) × (x ≡ y))
push_cases [] x zero y e = inr (refl, cc e)
push_cases [] x (suc i) y e = absurd (cc e)
push_cases (z ∷ xs) x zero y e = inl e
push_cases (z ∷ xs) x (suc i) y e = step (push_cases xs x i y e)
  where
    step : (slice_get xs i ≡ Some y) ⊎ ((i ≡ length xs) × (x ≡ y)) → (slice_get xs i ≡ Some y) ⊎ ((suc i ≡ suc (length xs)) × (x ≡ y))
    step (inl h) = inl h
    step (inr h) = inr (ap suc h.0, h.1)

pub not_there : (x : Text) (seen : List Text) (i : ℕ) → is_among x seen ≡ false → slice_get seen i ≡ Some x → ⊥
not_there x [] i e h = absurd (cc h)
not_there x (y ∷ seen) zero e h =
    let same : bytes_eq y x ≡ true = (bytes_eq-Decides y x).1 (cc h) in
    let other : bytes_eq y x ≡ false = (or_false (bytes_eq y x) (is_among x seen) e).0 in
    cc (same, other)
not_there x (y ∷ seen) (suc i) e h = not_there x seen i (or_false (bytes_eq y x) (is_among x seen) e).1 h

pub push_distinct : (seen : List Text) (x : Text) → AreDistinct seen → ((i : ℕ) → ¬ (slice_get seen i ≡ Some x)) → AreDistinct (seen ++ x ∷ [])
push_distinct seen x d new t i j e h = step (push_cases seen x i t e) (push_cases seen x j t h)
  where
    step : (slice_get seen i ≡ Some t) ⊎ ((i ≡ length seen) × (x ≡ t)) → (slice_get seen j ≡ Some t) ⊎ ((j ≡ length seen) × (x ≡ t)) → i ≡ j
    step (inl a) (inl b) = d t i j a b
    step (inl a) (inr b) = absurd (new i (a ∙ ap (λ y. Some y) (sym b.1)))
    step (inr a) (inl b) = absurd (new j (b ∙ ap (λ y. Some y) (sym a.1)))
    step (inr a) (inr b) = a.0 ∙ sym b.0

noted_distinct : (b : Bool) (seen : List Text) (x : Text) → is_among x seen ≡ b → AreDistinct seen → AreDistinct (noted b seen x)
noted_distinct true seen x e d = d
noted_distinct false seen x e d = push_distinct seen x d (λ i h. not_there x seen i e h)

-- ---- all of them

kept_there : (xs seen : List Text) (y : Text) → is_among y seen ≡ true → is_among y (first_occurrences seen xs) ≡ true
kept_there [] seen y h = h
kept_there (x ∷ xs) seen y h = kept_there xs (noted (is_among x seen) seen x) y (still_there (is_among x seen) seen x y h)

pub first_among : (xs seen : List Text) → AreAmong (first_occurrences seen xs) xs
first_among [] seen = tt
first_among (x ∷ xs) seen =
    let b = is_among x seen in
    (kept_there xs (noted b seen x) x (now_there b seen x refl), first_among xs (noted b seen x))

pub first_begins : (xs seen : List Text) → (ys : List Text) × (first_occurrences seen xs ≡ seen ++ ys)
first_begins [] seen = ([], sym (append-nil seen))
first_begins (x ∷ xs) seen =
    let one = noted_begins (is_among x seen) seen x in
    let more = first_begins xs (noted (is_among x seen) seen x) in
    (one.0 ++ more.0, more.1 ∙ ap (λ l. l ++ more.0) one.1 ∙ append_assoc seen one.0 more.0)

pub first_variables : (xs seen : List Text) → AreVariables seen → AreVariables xs → AreVariables (first_occurrences seen xs)
first_variables [] seen a h = a
first_variables (x ∷ xs) seen a h =
    first_variables xs (noted (is_among x seen) seen x) (noted_variables (is_among x seen) seen x a (h.0, tt)) h.1

pub first_distinct : (xs seen : List Text) → AreDistinct seen → AreDistinct (first_occurrences seen xs)
first_distinct [] seen d = d
first_distinct (x ∷ xs) seen d = first_distinct xs (noted (is_among x seen) seen x) (noted_distinct (is_among x seen) seen x refl d)

-- ---- numbers

found_before : (p : Text → Bool) (xs ys : List Text) → list_any p xs ≡ true → position_or_len p (xs ++ ys) < length xs
found_before p [] ys h = absurd (cc h)
found_before p (x ∷ xs) ys h = step (p x) (λ more. found_before p xs ys more) h
  where
    step : (b : Bool) → (list_any p xs ≡ true → position_or_len p (xs ++ ys) < length xs) → (b || list_any p xs) ≡ true
        → cond (not b) (1 + position_or_len p (xs ++ ys)) 0 < suc (length xs)
    step true more h = omega arith
    step false more h = let below = more h in omega arith

-- a variable among the first names has a number below theirs
pub number_before : (x : Text) (xs ys : List Text) → is_among x xs ≡ true → number_in (xs ++ ys) x < length xs
number_before x xs ys h =
    let first = position_or_len (λ y. bytes_eq y x) (xs ++ ys) in
    let below : first < length xs = found_before (λ y. bytes_eq y x) xs ys h in
    let within : first < length (xs ++ ys) = simp length-append (omega arith) in
    subst (λ n. n < length xs) (sym (ap (λ b. unwrap_or (cond b (Some first) None) 0) (lt-ltb first (length (xs ++ ys)) within))) below

-- and one among all names below all
pub number_within : (x : Text) (names : List Text) → is_among x names ≡ true → number_in names x < length names
number_within x names h = subst (λ l. number_in l x < length names) (append-nil names) (number_before x names [] h)
