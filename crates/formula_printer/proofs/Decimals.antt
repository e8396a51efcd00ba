-- Numbers as they are written.
use Rattle.std.proofs.Common.{◌≡◌, ℕ, zero, suc, ◌+◌, ◌-◌, ◌*◌, ◌/◌, ◌%◌, ◌^◌, ◌<◌, ◌≤◌, true, false, ◌==◌, List, [], ◌∷◌, ◌++◌, length, refl, sym, ap, ◌∙◌, arith}
use Rattle.std.specs.Prelude.{map}
use Rattle.std.specs.Char.{is_ascii_digit}
use Rattle.std.specs.Fmt.{decimal}
use Rattle.std.specs.List.{list_all}
use Rattle.std.specs.Int.Digits.{digits_of, number_from_digits_after, AllBelowBase}
use Rattle.std.proofs.lemmas.Bool.Decides.{nat_tests}
use Rattle.std.proofs.lemmas.Fmt.{decimal_by_steps}
use Rattle.std.proofs.lemmas.Int.Digits.{digits_of_step, all_below_base_digits_of, number_digits_of}
use Rattle.formula_ast.specs.Tokens.{is_number}
use Rattle.formula_grammar.specs.Checks.{value_from, value_of}
use Rattle.formula_printer.specs.Numerals.{numeral}

-- the digits as they are written
shown : List ℕ → List ℕ
shown ds = map (λ digit. 48 + digit) ds

numeral_zero : numeral 0 ≡ 48 ∷ []
unfolding numeral
numeral_zero = refl

numeral_positive : (n : ℕ) → 0 < n → numeral n ≡ shown (digits_of 10 n)
unfolding numeral shown
numeral_positive n h = let e : (n == 0) ≡ false = grind (arith, nat_tests) in rw e refl

shown_push : (ds : List ℕ) (d : ℕ) → shown (ds ++ d ∷ []) ≡ shown ds ++ (48 + d) ∷ []
unfolding shown
shown_push [] d = refl
shown_push (x ∷ ds) d = ap (λ l. (48 + x) ∷ l) (shown_push ds d)

numeral_step : (n : ℕ) → 0 < n → numeral n ≡ shown (digits_of 10 (n / 10)) ++ (48 + n % 10) ∷ []
numeral_step n h = numeral_positive n h ∙ ap shown (digits_of_step 10 n (omega arith) h) ∙ shown_push (digits_of 10 (n / 10)) (n % 10)

no_digits : (m : ℕ) → shown (digits_of 10 0) ++ (48 + m) ∷ [] ≡ (48 + m) ∷ []
unfolding shown
no_digits m = refl

one_digit : (n : ℕ) → n < 10 → (48 + n) ∷ [] ≡ numeral n
one_digit zero h = sym numeral_zero
one_digit (suc n) h =
    let high : suc n / 10 ≡ 0 = omega arith in
    let low : suc n % 10 ≡ suc n = omega arith in
    sym (numeral_step (suc n) (omega arith) ∙ ap (λ m. shown (digits_of 10 m) ++ (48 + suc n % 10) ∷ []) high ∙ no_digits (suc n % 10) ∙ ap (λ m. (48 + m) ∷ []) low)

-- the text of a number that std writes
pub decimal_is : (n : ℕ) → n < 2 ^ 64 → decimal n ≡ numeral n
decimal_is n h = decimal_by_steps (λ m ds. ds ≡ numeral m) one_digit more n h
  where
    more : (m : ℕ) (ds : List ℕ) → 10 ≤ m → ds ≡ numeral (m / 10) → ds ++ (48 + m % 10) ∷ [] ≡ numeral m
    more m ds ten e =
        let some : 0 < m / 10 = omega arith in
        ap (λ l. l ++ (48 + m % 10) ∷ []) (e ∙ numeral_positive (m / 10) some) ∙ sym (numeral_step m (omega arith))

value_shown : (ds : List ℕ) (n : ℕ) → value_from n (shown ds) ≡ number_from_digits_after 10 n ds
unfolding shown
value_shown [] n = refl
value_shown (d ∷ ds) n =
    let e : (48 + d) - 48 ≡ d = omega arith in
    ap (λ m. value_from (n * 10 + m) (shown ds)) e ∙ value_shown ds (n * 10 + d)

-- a numeral is of its number
pub numeral_value : (n : ℕ) → value_of (numeral n) ≡ n
numeral_value zero = ap value_of numeral_zero
numeral_value (suc n) = ap value_of (numeral_positive (suc n) (omega arith)) ∙ value_shown (digits_of 10 (suc n)) 0 ∙ number_digits_of 10 (suc n) (omega arith)

digit_shown : (d : ℕ) → d < 10 → is_ascii_digit (48 + d) ≡ true
digit_shown d h = grind (arith, nat_tests)

digits_shown : (ds : List ℕ) → AllBelowBase 10 ds → list_all (λ c. is_ascii_digit c) (shown ds) ≡ true
unfolding shown
digits_shown [] h = refl
digits_shown (d ∷ ds) h = rw (digit_shown d h.0) (digits_shown ds h.1)

some_number : (ds : List ℕ) → list_all (λ c. is_ascii_digit c) ds ≡ true → 0 < length ds → is_number ds ≡ true
some_number [] h w = absurd (omega arith)
some_number (d ∷ ds) h w = h

push_length : (xs : List ℕ) (x : ℕ) → 0 < length (xs ++ x ∷ [])
push_length [] x = omega arith
push_length (y ∷ xs) x = omega arith

-- a numeral is made of digits
pub numeral_number : (n : ℕ) → is_number (numeral n) ≡ true
numeral_number zero = rw numeral_zero refl
numeral_number (suc n) =
    let e : numeral (suc n) ≡ shown (digits_of 10 (suc n)) = numeral_positive (suc n) (omega arith) in
    let all : list_all (λ c. is_ascii_digit c) (numeral (suc n)) ≡ true = rw e (digits_shown (digits_of 10 (suc n)) (all_below_base_digits_of 10 (suc n) (omega arith))) in
    let some : 0 < length (numeral (suc n)) = rw (numeral_step (suc n) (omega arith)) (push_length (shown (digits_of 10 (suc n / 10))) (48 + suc n % 10)) in
    some_number (numeral (suc n)) all some
