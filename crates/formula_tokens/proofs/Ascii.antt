-- A token is made of ASCII bytes.
use Rattle.std.proofs.Common.{◌≡◌, ℕ, ◌<◌, Bool, true, false, ◌&&◌, ◌==◌, nat_lt, List, [], ◌∷◌, Some, None, IsAscii, refl, arith}
use Rattle.std.specs.List.{list_all}
use Rattle.std.specs.Char.{is_ascii_digit, is_ascii_lowercase, is_ascii_uppercase}
use Rattle.std.proofs.lemmas.Str.Ascii.{IsAscii-nil, IsAscii-cons}
use Rattle.std.proofs.lemmas.Bool.Decides.{nat_tests}
use Rattle.formula_ast.specs.declared.token.TokenKind.{TokenKind}
use Rattle.formula_ast.specs.Tokens.{is_word_byte, is_number, kind_by_form, kind_of, reserved, marks}
use Rattle.formula_tokens.proofs.Texts.{unlisted}

abbrev are_ascii : List ℕ → Bool
are_ascii text = list_all (λ b. nat_lt b 128) text

is_ascii : (text : List ℕ) → are_ascii text ≡ true → IsAscii text
is_ascii [] e = IsAscii-nil
is_ascii (b ∷ text) e = step (nat_lt b 128) refl (λ rest. is_ascii text rest) e
  where
    step : (x : Bool) → nat_lt b 128 ≡ x → (are_ascii text ≡ true → IsAscii text) → (x && are_ascii text) ≡ true → IsAscii (b ∷ text)
    step true below rest h = let less : b < 128 = grind (arith, nat_tests) in IsAscii-cons b text less (rest h)
    step false below rest h = absurd (cc)

-- bytes that pass a test which only ASCII bytes pass are ASCII
all_ascii : (p : ℕ → Bool) → ((b : ℕ) → p b ≡ true → nat_lt b 128 ≡ true) → (text : List ℕ) → list_all p text ≡ true → are_ascii text ≡ true
all_ascii p h [] e = refl
all_ascii p h (b ∷ text) e = step (p b) refl (λ rest. all_ascii p h text rest) e
  where
    step : (x : Bool) → p b ≡ x → (list_all p text ≡ true → are_ascii text ≡ true) → (x && list_all p text) ≡ true → (nat_lt b 128 && are_ascii text) ≡ true
    step true passes rest all = rw (h b passes) (rest all)
    step false passes rest all = absurd (cc)

word : (b : ℕ) → is_word_byte b ≡ true → nat_lt b 128 ≡ true
word b h = grind (arith, nat_tests)

digit : (b : ℕ) → is_ascii_digit b ≡ true → nat_lt b 128 ≡ true
digit b h = grind (arith, nat_tests)

small : (b : ℕ) → is_ascii_lowercase b ≡ true → nat_lt b 128 ≡ true
small b h = grind (arith, nat_tests)

capital : (b : ℕ) → is_ascii_uppercase b ≡ true → nat_lt b 128 ≡ true
capital b h = grind (arith, nat_tests)

dollar : (b : ℕ) → (b == 36) ≡ true → nat_lt b 128 ≡ true
dollar b h = grind (arith, nat_tests)

number_ascii : (text : List ℕ) → is_number text ≡ true → are_ascii text ≡ true
number_ascii [] h = refl
number_ascii (b ∷ text) h = all_ascii (λ c. is_ascii_digit c) digit (b ∷ text) h

-- where some byte is not ASCII, a first byte that is and a rest that is do not stand together
apart : (b : ℕ) (text : List ℕ) (x y : Bool) → are_ascii (b ∷ text) ≡ false
    → (x ≡ true → nat_lt b 128 ≡ true) → (y ≡ true → are_ascii text ≡ true) → (x && y) ≡ false
apart b text false y fails first rest = refl
apart b text true false fails first rest = refl
apart b text true true fails first rest =
    let holds : (nat_lt b 128 && are_ascii text) ≡ true = rw (first refl) (rest refl) in
    absurd (cc)

no_form : (text : List ℕ) → are_ascii text ≡ false → kind_by_form text ≡ None
no_form [] h = refl
no_form (b ∷ text) h =
    let name = apart b text (is_ascii_lowercase b) (list_all (λ c. is_word_byte c) text) h (small b) (all_ascii (λ c. is_word_byte c) word text) in
    let variable = apart b text (is_ascii_uppercase b) (list_all (λ c. is_word_byte c) text) h (capital b) (all_ascii (λ c. is_word_byte c) word text) in
    let number = apart b text (is_ascii_digit b) (list_all (λ c. is_ascii_digit c) text) h (digit b) (all_ascii (λ c. is_ascii_digit c) digit text) in
    let further = apart b text (b == 36) (is_number text) h (dollar b) (number_ascii text) in
    rw (name, variable, number, further) refl

no_kind : (text : List ℕ) → are_ascii text ≡ false → kind_of text ≡ None
unfolding kind_of
no_kind text h = rw (unlisted are_ascii reserved text refl h, unlisted are_ascii marks text refl h) (no_form text h)

-- a text that is a token is ASCII
pub token_ascii : (text : List ℕ) (kind : TokenKind) → kind_of text ≡ Some kind → IsAscii text
token_ascii text kind e = step (are_ascii text) refl
  where
    step : (x : Bool) → are_ascii text ≡ x → IsAscii text
    step true h = is_ascii text h
    step false h = let none : kind_of text ≡ None = no_kind text h in absurd (cc)
