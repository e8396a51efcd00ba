-- What the value of a text is as a number of the command line.
use Rattle.std.proofs.Common.{◌≡◌, ℕ, ◌<◌, ◌≤◌, ◌^◌, Bool, true, false, ◌&&◌, nat_le, List, [], ◌∷◌, length, Option, Some, None, Result, Ok, Err, refl, sym, ap, subst, ◌∙◌, arith, if◌then◌else◌}
use Rattle.std.specs.List.{list_all}
use Rattle.std.specs.Char.{is_ascii_digit}
use Rattle.std.specs.Str.{all_ascii_digits}
use Rattle.std.specs.Str.Parse.{digits_value, ParsesUnsigned}
use Rattle.std.specs.Result.{OkIff}
use Rattle.std.proofs.lemmas.Bool.{le-leb, lt-leb}
use Rattle.std.proofs.lemmas.Str.Parse.{numerals_by_value, tells_all_ascii_digits, parse_digits}
use Rattle.command_words.specs.Words.{is_number, number_of}

same_test : (text : List ℕ) → list_all is_ascii_digit text ≡ all_ascii_digits text
same_test [] = refl
same_test (c ∷ cs) = ap (λ b. is_ascii_digit c && b) (same_test cs)

abbrev is_short : List ℕ → Bool
is_short text = nat_le (length text) 20

abbrev is_small : ℕ → List ℕ → Bool
is_small most text = nat_le (digits_value 10 text) most

abbrev picked : Bool → List ℕ → Option ℕ
picked b text = if b then Some (digits_value 10 text) else None

number_is : (most : ℕ) (text : List ℕ) (a b c : Bool) → is_number text ≡ a → is_short text ≡ b → is_small most text ≡ c
    → number_of most text ≡ picked (a && (b && c)) text
unfolding number_of
number_is most text a b c x y z =
    ap (λ t. picked (t && (is_short text && is_small most text)) text) x ∙ ap (λ t. picked (a && (t && is_small most text)) text) y ∙ ap (λ t. picked (a && (b && t)) text) z

and_false : (b : Bool) → (b && false) ≡ false
and_false true = refl
and_false false = refl

no_digits : (most : ℕ) (text : List ℕ) → is_number text ≡ false → number_of most text ≡ None
no_digits most text x = number_is most text false (is_short text) (is_small most text) x refl refl

pub long_text : (most : ℕ) (text : List ℕ) → 20 < length text → number_of most text ≡ None
long_text most text long =
    number_is most text (is_number text) false (is_small most text) refl (lt-leb (length text) 20 long) refl ∙ ap (λ b. picked b text) (and_false (is_number text))

too_great : (most : ℕ) (text : List ℕ) → most < digits_value 10 text → number_of most text ≡ None
too_great most text great =
    number_is most text (is_number text) (is_short text) false refl refl (lt-leb (digits_value 10 text) most great)
    ∙ ap (λ b. picked (is_number text && b) text) (and_false (is_short text)) ∙ ap (λ b. picked b text) (and_false (is_number text))

is_number_not : (text : List ℕ) → list_all is_ascii_digit text ≡ false → is_number text ≡ false
is_number_not [] none = refl
is_number_not (c ∷ cs) none = none

is_number_is : (text : List ℕ) → list_all is_ascii_digit text ≡ true → 0 < length text → is_number text ≡ true
is_number_is [] all some = absurd (omega arith)
is_number_is (c ∷ cs) all some = all

pub other_text : (most : ℕ) (text : List ℕ) → list_all is_ascii_digit text ≡ false → number_of most text ≡ None
other_text most text none = no_digits most text (is_number_not text none)

-- what was parsed of a text of digits
module _ {E : Type 0} (most : ℕ) (text : List ℕ) (r : Result ℕ E) (all : list_all is_ascii_digit text ≡ true) (parses : ParsesUnsigned 64 10 text r) where
  parsed : OkIff r ((0 < length text) × (digits_value 10 text < 2 ^ 64)) (digits_value 10 text)
  parsed = parse_digits (numerals_by_value _ tells_all_ascii_digits) 64 text r parses (sym (same_test text) ∙ all)

  got : (value : ℕ) → r ≡ Ok value → ((0 < length text) × (digits_value 10 text < 2 ^ 64)) × (value ≡ digits_value 10 text)
  got value is = subst (λ (o : Result ℕ E). OkIff o ((0 < length text) × (digits_value 10 text < 2 ^ 64)) (digits_value 10 text)) is parsed

  failed : (error : E) → r ≡ Err error → ¬ ((0 < length text) × (digits_value 10 text < 2 ^ 64))
  failed error is = subst (λ (o : Result ℕ E). OkIff o ((0 < length text) × (digits_value 10 text < 2 ^ 64)) (digits_value 10 text)) is parsed

  pub small_number : (value : ℕ) → r ≡ Ok value → length text ≤ 20 → value ≤ most → number_of most text ≡ Some value
  small_number value is short small =
      let p = got value is in
      let fits : digits_value 10 text ≤ most = omega (arith, small, p.1) in
      number_is most text true true true (is_number_is text all p.0.0) (le-leb (length text) 20 short) (le-leb (digits_value 10 text) most fits) ∙ ap Some (sym p.1)

  pub great_number : (value : ℕ) → r ≡ Ok value → most < value → number_of most text ≡ None
  great_number value is great = let p = got value is in too_great most text (omega (arith, great, p.1))

  pub no_value : (error : E) → r ≡ Err error → most < 2 ^ 64 → number_of most text ≡ None
  no_value error is small = either text refl (failed error is)
    where
      beyond : (n v : ℕ) → ¬ ((0 < n) × (v < 2 ^ 64)) → 0 < n → most < 2 ^ 64 → most < v
      beyond n v p some small = let great : ¬ (v < 2 ^ 64) = λ less. p (some, less) in omega arith

      either : (t : List ℕ) → t ≡ text → ¬ ((0 < length text) × (digits_value 10 text < 2 ^ 64)) → number_of most text ≡ None
      either [] e p = no_digits most text (ap is_number (sym e))
      either (c ∷ cs) e p =
          let more : 0 < length text = subst (λ (t : List ℕ). 0 < length t) e (omega arith) in
          too_great most text (beyond (length text) (digits_value 10 text) p more small)
