-- The names of bound variables: they rise, none is another name, and there are enough.
use Rattle.std.proofs.Common.{◌≡◌, ℕ, zero, suc, ◌+◌, ◌<◌, ◌≤◌, Bool, true, false, not, ◌||◌, ◌&&◌, cond, List, [], ◌∷◌, ◌++◌, take, drop, length, Some, refl, sym, ap, ◌∙◌, subst, arith, add-one, length-take}
use Rattle.std.specs.Prelude.{All, map, filter, slice_get}
use Rattle.std.specs.List.{range_with_len, list_all}
use Rattle.std.specs.Str.{bytes_eq}
use Rattle.std.specs.Char.{is_ascii_digit}
use Rattle.std.proofs.lemmas.Bool.Decides.{nat_tests}
use Rattle.std.proofs.lemmas.List.{append-nil, length-append, take_all, take-append-le, length-take-le}
use Rattle.std.proofs.lemmas.List.Elements.{All-append, All-cons, All-nil}
use Rattle.std.proofs.lemmas.List.FromFn.{filter_of_map_range_with_len_more}
use Rattle.formula_ast.specs.declared.token.TokenKind.TheVariants as k
use Rattle.formula_ast.specs.Tokens.{is_word_byte, is_number, kind_of}
use Rattle.formula_ast.specs.WellFormed.{AreDistinct}
use Rattle.formula_ast.proofs.Lists.{take_more_got}
use Rattle.formula_tokens.proofs.Texts.{variable}
use Rattle.formula_grammar.specs.Checks.{is_among, value_of}
use Rattle.formula_grammar.specs.Written.{Text}
use Rattle.formula_printer.specs.Numerals.{numeral}
use Rattle.formula_printer.specs.Bound.{counted, fresh_names, bound_names}
use Rattle.formula_printer.proofs.Decimals.{numeral_value, numeral_number}
use Rattle.formula_printer.proofs.Places.{some_is, equal_texts, known_at}

-- ---- one more name

enough : (n : ℕ) (l m : List Text) → n ≤ length (take n l) → take n l ≡ take n (l ++ m)
enough n l m h = let long : n ≤ length l = omega (arith, length-take n l) in sym (take-append-le n l m long)

pub still_enough : (names : List Text) (n i : ℕ) → n ≤ length (take n (fresh_names names i)) → take n (fresh_names names i) ≡ take n (fresh_names names (i + 1))
still_enough names n i h =
    enough n (fresh_names names i) (cond (not (is_among (counted i) names)) (counted i ∷ []) []) h
    ∙ ap (take n) (sym (filter_of_map_range_with_len_more (λ x. not (is_among x names)) counted 0 i i (omega arith)))

pub left_out : (names : List Text) (n i : ℕ) → is_among (counted i) names ≡ true → take n (fresh_names names i) ≡ take n (fresh_names names (i + 1))
left_out names n i h =
    ap (take n) (sym (filter_of_map_range_with_len_more (λ x. not (is_among x names)) counted 0 i i (omega arith) ∙ rw h (append-nil (fresh_names names i))))

room : (n : ℕ) (l : List Text) (x : Text) → length (take n l) < n → take n l ++ x ∷ [] ≡ take n (l ++ x ∷ [])
room n l x h =
    let short : length l < n = omega (arith, length-take n l) in
    ap (λ m. m ++ x ∷ []) (take_all n l (omega arith)) ∙ sym (take_all n (l ++ x ∷ []) (omega (arith, length-append l (x ∷ []))))

pub taken_in : (names : List Text) (n i : ℕ) → length (take n (fresh_names names i)) < n → is_among (counted i) names ≡ false
    → take n (fresh_names names i) ++ counted i ∷ [] ≡ take n (fresh_names names (i + 1))
taken_in names n i h new =
    room n (fresh_names names i) (counted i) h
    ∙ ap (take n) (sym (filter_of_map_range_with_len_more (λ x. not (is_among x names)) counted 0 i i (omega arith) ∙ rw new refl))

-- ---- counted names

counted_injective : (i j : ℕ) → counted i ≡ counted j → i ≡ j
counted_injective i j e = sym (numeral_value i) ∙ ap (λ x. value_of (drop 1 x)) e ∙ numeral_value j

digit_word : (b : ℕ) → is_ascii_digit b ≡ true → is_word_byte b ≡ true
digit_word b h = grind (arith, nat_tests)

digits_word : (t : Text) → list_all (λ c. is_ascii_digit c) t ≡ true → list_all (λ c. is_word_byte c) t ≡ true
digits_word [] h = refl
digits_word (b ∷ t) h = step (λ rest. digits_word t rest) (is_ascii_digit b) refl h
  where
    step : (list_all (λ c. is_ascii_digit c) t ≡ true → list_all (λ c. is_word_byte c) t ≡ true) → (x : Bool) → is_ascii_digit b ≡ x
        → (x && list_all (λ c. is_ascii_digit c) t) ≡ true → (is_word_byte b && list_all (λ c. is_word_byte c) t) ≡ true
    step later true d rest = rw (digit_word b d) (later rest)
    step later false d rest = absurd (cc rest)

number_word : (t : Text) → is_number t ≡ true → list_all (λ c. is_word_byte c) t ≡ true
number_word [] h = refl
number_word (b ∷ t) h = digits_word (b ∷ t) h

pub counted_word : (i : ℕ) → kind_of (counted i) ≡ Some k.Variable
counted_word i = variable 86 (numeral i) refl (number_word (numeral i) (numeral_number i))

-- ---- names that rise

pub data AreRising (names : List Text) : ℕ → List Text → Type 0 where
  none : {a : ℕ} → AreRising names a []
  next : {a : ℕ} {xs : List Text} (i : ℕ) → a ≤ i → is_among (counted i) names ≡ false → AreRising names (suc i) xs → AreRising names a (counted i ∷ xs)

weaker : {names : List Text} {a : ℕ} {xs : List Text} (b : ℕ) → b ≤ a → AreRising names a xs → AreRising names b xs
weaker b h none = none
weaker b h (next i above new rest) = next i (omega (arith, h, above)) new rest

rise : (names : List Text) (m a : ℕ) → AreRising names a (filter (λ x. not (is_among x names)) (map counted (range_with_len a m)))
rise names zero a = none
rise names (suc m) a = step (is_among (counted a) names) refl (rise names m (a + 1))
  where
    rest : List Text
    rest = filter (λ x. not (is_among x names)) (map counted (range_with_len (a + 1) m))

    step : (b : Bool) → is_among (counted a) names ≡ b → AreRising names (a + 1) rest → AreRising names a (cond (not b) (counted a ∷ rest) rest)
    step true is r = weaker a (omega arith) r
    step false is r = next a (omega arith) is (subst (λ b. AreRising names b rest) (add-one a) r)

rise_taken : {names : List Text} (n a : ℕ) (xs : List Text) → AreRising names a xs → AreRising names a (take n xs)
rise_taken zero a xs none = none
rise_taken zero a xs (next i above new rest) = none
rise_taken (suc n) a xs none = none
rise_taken (suc n) a xs (next {xs = ys} i above new rest) = next i above new (rise_taken n (suc i) ys rest)

pub bound_rise : (names : List Text) (n : ℕ) → AreRising names 0 (bound_names names n)
bound_rise names n = rise_taken n 0 (fresh_names names (n + length names)) (rise names (n + length names) 0)

-- they are words, and so are the others behind them
pub rising_each : {names : List Text} {a : ℕ} {xs : List Text} → AreRising names a xs → All (λ x. kind_of x ≡ Some k.Variable) xs
rising_each none = All-nil (λ x. kind_of x ≡ Some k.Variable)
rising_each (next {xs = xs} i above new rest) = All-cons (λ x. kind_of x ≡ Some k.Variable) (counted i) xs (counted_word i) (rising_each rest)

pub rising_words : {names : List Text} {a : ℕ} {xs : List Text} → AreRising names a xs → All (λ x. kind_of x ≡ Some k.Variable) names
    → All (λ x. kind_of x ≡ Some k.Variable) (xs ++ names)
rising_words {names = names} {xs = xs} rise words = All-append (λ x. kind_of x ≡ Some k.Variable) xs names (rising_each rise) words

-- a name that is counted below does not stand there
elsewhere : {names : List Text} {b : ℕ} {xs : List Text} (i j : ℕ) → AreRising names b xs → i < b → is_among (counted i) names ≡ false
    → ¬ (slice_get (xs ++ names) j ≡ Some (counted i))
elsewhere {names = names} i j none below new got = let known = known_at names j (counted i) got in absurd (cc (known, new))
elsewhere i zero (next k above other rest) below new got =
    let same : k ≡ i = counted_injective k i (some_is got) in
    absurd (omega (arith, same, above, below))
elsewhere i (suc j) (next k above other rest) below new got = elsewhere i j rest (omega (arith, above, below)) new got

-- and they are distinct
pub rising_distinct : {names : List Text} {a : ℕ} {xs : List Text} → AreRising names a xs → AreDistinct names → AreDistinct (xs ++ names)
rising_distinct none distinct = distinct
rising_distinct {names = names} (next {xs = xs} k above new rest) distinct = λ text i j at_i at_j. by (rising_distinct rest distinct) text i j at_i at_j
  where
    by : AreDistinct (xs ++ names) → (text : Text) (i j : ℕ) → slice_get (counted k ∷ (xs ++ names)) i ≡ Some text → slice_get (counted k ∷ (xs ++ names)) j ≡ Some text → i ≡ j
    by others text zero zero at_i at_j = refl
    by others text zero (suc j) at_i at_j = absurd (elsewhere k j rest (omega arith) new (at_j ∙ sym at_i))
    by others text (suc i) zero at_i at_j = absurd (elsewhere k i rest (omega arith) new (at_i ∙ sym at_j))
    by others text (suc i) (suc j) at_i at_j = ap suc (others text i j at_i at_j)

-- ---- there are enough

abbrev open_count : List Text → ℕ → ℕ → ℕ
open_count names a m = length (filter (λ x. not (is_among x names)) (map counted (range_with_len a m)))

-- a name that is counted below leaves all
unharmed : (names : List Text) (j m a : ℕ) → j < a → open_count (counted j ∷ names) a m ≡ open_count names a m
unharmed names j zero a below = refl
unharmed names j (suc m) a below = step (unharmed names j m (a + 1) (omega arith)) (bytes_eq (counted j) (counted a)) refl
  where
    kept : List Text → List Text
    kept xs = filter (λ x. not (is_among x xs)) (map counted (range_with_len (a + 1) m))

    also : length (kept (counted j ∷ names)) ≡ length (kept names) → (b : Bool)
        → length (cond (not b) (counted a ∷ kept (counted j ∷ names)) (kept (counted j ∷ names))) ≡ length (cond (not b) (counted a ∷ kept names) (kept names))
    also rest true = rest
    also rest false = ap suc rest

    step : length (kept (counted j ∷ names)) ≡ length (kept names) → (b : Bool) → bytes_eq (counted j) (counted a) ≡ b
        → length (cond (not (b || is_among (counted a) names)) (counted a ∷ kept (counted j ∷ names)) (kept (counted j ∷ names)))
        ≡ length (cond (not (is_among (counted a) names)) (counted a ∷ kept names) (kept names))
    step rest true is = let same : j ≡ a = counted_injective j a (equal_texts (counted j) (counted a) is) in absurd (omega (arith, same, below))
    step rest false is = also rest (is_among (counted a) names)

at_most_one_more : (b : Bool) (x : Text) (l : List Text) → length (cond (not b) (x ∷ l) l) ≤ suc (length l)
at_most_one_more true x l = omega arith
at_most_one_more false x l = omega arith

-- and any name takes out at most one
lost : (names : List Text) (y : Text) (m a : ℕ) → open_count names a m ≤ suc (open_count (y ∷ names) a m)
lost names y zero a = omega arith
lost names y (suc m) a = step (bytes_eq y (counted a)) refl (lost names y m (a + 1))
  where
    kept : List Text → List Text
    kept xs = filter (λ x. not (is_among x xs)) (map counted (range_with_len (a + 1) m))

    step : (b : Bool) → bytes_eq y (counted a) ≡ b → length (kept names) ≤ suc (length (kept (y ∷ names)))
        → length (cond (not (is_among (counted a) names)) (counted a ∷ kept names) (kept names))
        ≤ suc (length (cond (not (b || is_among (counted a) names)) (counted a ∷ kept (y ∷ names)) (kept (y ∷ names))))
    step true is rest =
        let same : length (kept (y ∷ names)) ≡ length (kept names) =
        ap (λ z. length (kept (z ∷ names))) (equal_texts y (counted a) is) ∙ unharmed names a m (a + 1) (omega arith) in
        omega (arith, same, at_most_one_more (is_among (counted a) names) (counted a) (kept names))
    step false is rest = also (is_among (counted a) names)
      where
        also : (b : Bool) → length (cond (not b) (counted a ∷ kept names) (kept names)) ≤ suc (length (cond (not b) (counted a ∷ kept (y ∷ names)) (kept (y ∷ names))))
        also true = rest
        also false = omega (arith, rest)

none_lost : (m a : ℕ) → open_count [] a m ≡ m
none_lost zero a = refl
none_lost (suc m) a = ap suc (none_lost m (a + 1))

enough_open : (names : List Text) (m a : ℕ) → m ≤ open_count names a m + length names
enough_open [] m a = omega (arith, none_lost m a)
enough_open (y ∷ names) m a = omega (arith, lost names y m a, enough_open names m a)

-- there are n of them
pub bound_count : (names : List Text) (n : ℕ) → length (bound_names names n) ≡ n
bound_count names n =
    let many = enough_open names (n + length names) 0 in
    length-take-le n (fresh_names names (n + length names)) (omega (arith, many))

-- ---- whether a name is among others

pub same_known : (names : List Text) (i : ℕ) (y x : Text) → slice_get names i ≡ Some y → bytes_eq y x ≡ true → is_among x names ≡ true
same_known names i y x got same = known_at names i x (got ∙ ap Some (equal_texts y x same))

among_push : (xs : List Text) (y x : Text) → is_among x xs ≡ false → bytes_eq y x ≡ false → is_among x (xs ++ y ∷ []) ≡ false
among_push [] y x missing other = rw other refl
among_push (z ∷ xs) y x missing other = step (λ rest. among_push xs y x rest other) (bytes_eq z x) missing
  where
    step : (is_among x xs ≡ false → is_among x (xs ++ y ∷ []) ≡ false) → (b : Bool) → (b || is_among x xs) ≡ false → (b || is_among x (xs ++ y ∷ [])) ≡ false
    step later true h = absurd (cc h)
    step later false h = later h

pub among_more : (names : List Text) (i : ℕ) (y x : Text) → slice_get names i ≡ Some y → is_among x (take i names) ≡ false → bytes_eq y x ≡ false
    → is_among x (take (i + 1) names) ≡ false
among_more names i y x got missing other = ap (is_among x) (take_more_got names i y got) ∙ among_push (take i names) y x missing other
