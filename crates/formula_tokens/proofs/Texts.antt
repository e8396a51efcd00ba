-- The kinds of texts.
use Rattle.std.proofs.Common.{◌≡◌, ℕ, ◌<◌, Bool, true, false, not, ◌&&◌, ◌==◌, cond, if◌then◌else◌, nat_le, List, [], ◌∷◌, length, get_or, Option, Some, None, unwrap_or, refl, sym, ◌∙◌, ap, arith}
use Rattle.std.specs.Option.{option_or}
use Rattle.std.specs.List.{list_all}
use Rattle.std.specs.Str.{bytes_eq}
use Rattle.std.specs.Char.{is_ascii_digit, is_ascii_lowercase, is_ascii_uppercase}
use Rattle.std.proofs.lemmas.Slice.Eq.{bytes_eq-Decides}
use Rattle.std.proofs.lemmas.Bool.Decides.{nat_tests}
use Rattle.formula_ast.specs.declared.token.TokenKind.{TokenKind}
use Rattle.formula_ast.specs.declared.token.TokenKind.TheVariants as k
use Rattle.formula_ast.specs.Tokens.{is_word_byte, is_number, kind_in, kind_by_form, kind_of, reserved, marks}
use Rattle.formula_tokens.specs.Fronts.{begins_word}

abbrev form_passes : (List ℕ → Bool) → (List ℕ × TokenKind) → Bool
form_passes p form = p form.0

-- a text that fails a test which all forms of a table pass is not in the table
pub unlisted : (p : List ℕ → Bool) (table : List (List ℕ × TokenKind)) (text : List ℕ)
    → list_all (λ form. form_passes p form) table ≡ true → p text ≡ false → kind_in table text ≡ None
unlisted p [] text all fails = refl
unlisted p (form ∷ table) text all fails = step (λ rest. unlisted p table text rest fails) (bytes_eq text form.0) refl (p form.0) refl all
  where
    step : (list_all (λ f. form_passes p f) table ≡ true → kind_in table text ≡ None) → (x : Bool) → bytes_eq text form.0 ≡ x → (y : Bool) → p form.0 ≡ y → (y && list_all (λ f. form_passes p f) table) ≡ true
        → cond x (Some form.1) (kind_in table text) ≡ None
    step rest true e true f h =
        let same : text ≡ form.0 = (bytes_eq-Decides text form.0).0 e in
        let both : true ≡ false = sym f ∙ ap p (sym same) ∙ fails in
        absurd (cc)
    step rest x e false f h = absurd (cc)
    step rest false e true f h = rest h

abbrev begins_small : List ℕ → Bool
begins_small text = is_ascii_lowercase (get_or text 0 0)

abbrev is_run : List ℕ → Bool
is_run text = list_all (λ b. is_word_byte b) text

abbrev begins_as_mark : List ℕ → Bool
begins_as_mark text = not (begins_word (get_or text 0 0))

abbrev is_short : List ℕ → Bool
is_short text = nat_le (length text) 3

pub no_reserved : (b : ℕ) (t : List ℕ) → is_ascii_lowercase b ≡ false → kind_in reserved (b ∷ t) ≡ None
no_reserved b t h = unlisted begins_small reserved (b ∷ t) refl h

no_reserved_run : (b : ℕ) (t : List ℕ) → list_all (λ c. is_word_byte c) t ≡ false → kind_in reserved (b ∷ t) ≡ None
no_reserved_run b t h = unlisted is_run reserved (b ∷ t) refl (step (is_word_byte b))
  where
    step : (x : Bool) → (x && list_all (λ c. is_word_byte c) t) ≡ false
    step true = h
    step false = refl

no_mark : (b : ℕ) (t : List ℕ) → begins_word b ≡ true → kind_in marks (b ∷ t) ≡ None
no_mark b t h = unlisted begins_as_mark marks (b ∷ t) refl (ap (λ x. not x) h)

pub small : (b : ℕ) → is_ascii_lowercase b ≡ true → (is_word_byte b ≡ true) × (is_ascii_uppercase b ≡ false) × (is_ascii_digit b ≡ false) × ((b == 36) ≡ false) × (begins_word b ≡ true)
small b h = (grind (arith, nat_tests), grind (arith, nat_tests), grind (arith, nat_tests), grind (arith, nat_tests), grind (arith, nat_tests))

pub capital : (b : ℕ) → is_ascii_uppercase b ≡ true → (is_word_byte b ≡ true) × (is_ascii_lowercase b ≡ false) × (is_ascii_digit b ≡ false) × ((b == 36) ≡ false) × (begins_word b ≡ true)
capital b h = (grind (arith, nat_tests), grind (arith, nat_tests), grind (arith, nat_tests), grind (arith, nat_tests), grind (arith, nat_tests))

pub digit : (b : ℕ) → is_ascii_digit b ≡ true → (is_ascii_lowercase b ≡ false) × (is_ascii_uppercase b ≡ false) × ((b == 36) ≡ false) × (begins_word b ≡ true)
digit b h = (grind (arith, nat_tests), grind (arith, nat_tests), grind (arith, nat_tests), grind (arith, nat_tests))

other : (b : ℕ) → begins_word b ≡ false → (is_ascii_lowercase b ≡ false) × (is_ascii_uppercase b ≡ false) × (is_ascii_digit b ≡ false) × ((b == 36) ≡ false)
other b h = (grind (arith, nat_tests), grind (arith, nat_tests), grind (arith, nat_tests), grind (arith, nat_tests))

by_form : (text : List ℕ) → kind_in reserved text ≡ None → kind_in marks text ≡ None → kind_of text ≡ kind_by_form text
unfolding kind_of
by_form text r m = rw (r, m) refl

or_name : (found : Option TokenKind) → option_or found (Some k.Name) ≡ Some (unwrap_or found k.Name)
or_name None = refl
or_name (Some kind) = refl

pub name : (b : ℕ) (t : List ℕ) → is_ascii_lowercase b ≡ true → list_all (λ c. is_word_byte c) t ≡ true
    → kind_of (b ∷ t) ≡ Some (unwrap_or (kind_in reserved (b ∷ t)) k.Name)
unfolding kind_of
name b t h all = rw (no_mark b t (small b h).4, h, all) (or_name (kind_in reserved (b ∷ t)))

pub no_name : (b : ℕ) (t : List ℕ) → is_ascii_lowercase b ≡ true → list_all (λ c. is_word_byte c) t ≡ false → kind_of (b ∷ t) ≡ None
no_name b t h all =
    let s = small b h in
    by_form (b ∷ t) (no_reserved_run b t all) (no_mark b t s.4) ∙ rw (h, all, s.1, s.2, s.3) refl

pub variable : (b : ℕ) (t : List ℕ) → is_ascii_uppercase b ≡ true → list_all (λ c. is_word_byte c) t ≡ true → kind_of (b ∷ t) ≡ Some k.Variable
variable b t h all =
    let s = capital b h in
    by_form (b ∷ t) (no_reserved b t s.1) (no_mark b t s.4) ∙ rw (s.1, h, all) refl

pub no_variable : (b : ℕ) (t : List ℕ) → is_ascii_uppercase b ≡ true → list_all (λ c. is_word_byte c) t ≡ false → kind_of (b ∷ t) ≡ None
no_variable b t h all =
    let s = capital b h in
    by_form (b ∷ t) (no_reserved b t s.1) (no_mark b t s.4) ∙ rw (s.1, h, all, s.2, s.3) refl

pub number : (b : ℕ) (t : List ℕ) → is_ascii_digit b ≡ true → list_all (λ c. is_ascii_digit c) t ≡ true → kind_of (b ∷ t) ≡ Some k.Number
number b t h all =
    let s = digit b h in
    by_form (b ∷ t) (no_reserved b t s.0) (no_mark b t s.3) ∙ rw (s.0, s.1, h, all) refl

pub no_number : (b : ℕ) (t : List ℕ) → is_ascii_digit b ≡ true → list_all (λ c. is_ascii_digit c) t ≡ false → kind_of (b ∷ t) ≡ None
no_number b t h all =
    let s = digit b h in
    by_form (b ∷ t) (no_reserved b t s.0) (no_mark b t s.3) ∙ rw (s.0, s.1, h, all, s.2) refl

pub further : (t : List ℕ) → kind_of (36 ∷ t) ≡ (if is_number t then Some k.Further else None)
further t = by_form (36 ∷ t) (no_reserved 36 t refl) (no_mark 36 t refl)

or_none : (found : Option TokenKind) → option_or found None ≡ found
or_none None = refl
or_none (Some kind) = refl

pub mark : (b : ℕ) (t : List ℕ) → begins_word b ≡ false → kind_of (b ∷ t) ≡ kind_in marks (b ∷ t)
unfolding kind_of
mark b t h =
    let s = other b h in
    rw (no_reserved b t s.0, s.0, s.1, s.2, s.3) (or_none (kind_in marks (b ∷ t)))

pub no_long_mark : (b : ℕ) (t : List ℕ) → begins_word b ≡ false → 3 < length (b ∷ t) → kind_of (b ∷ t) ≡ None
no_long_mark b t h long = mark b t h ∙ unlisted is_short marks (b ∷ t) refl (grind (arith, nat_tests))

abbrev is_second_nonzero : List ℕ → Bool
is_second_nonzero (a ∷ b ∷ t) = not (b == 0)
is_second_nonzero _ = true

abbrev is_third_nonzero : List ℕ → Bool
is_third_nonzero (a ∷ b ∷ c ∷ t) = not (c == 0)
is_third_nonzero _ = true

pub no_second : (a : ℕ) (t : List ℕ) → kind_in marks (a ∷ 0 ∷ t) ≡ None
no_second a t = unlisted (λ text. is_second_nonzero text) marks (a ∷ 0 ∷ t) refl refl

pub no_third : (a b : ℕ) (t : List ℕ) → kind_in marks (a ∷ b ∷ 0 ∷ t) ≡ None
no_third a b t = unlisted (λ text. is_third_nonzero text) marks (a ∷ b ∷ 0 ∷ t) refl refl
