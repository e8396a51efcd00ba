-- Words that are the longest token where they stand.
use Rattle.std.proofs.Common.{◌≡◌, ℕ, suc, ◌+◌, ◌<◌, Bool, true, false, ◌&&◌, ◌==◌, cond, List, [], ◌∷◌, ◌++◌, length, get_or, Option, Some, None, unwrap_or, refl, sym, ap, ◌∙◌, arith, one-add, add-one}
use Rattle.std.specs.List.{prefix_len, list_all}
use Rattle.std.specs.Prelude.{codes}
use Rattle.std.specs.Str.{bytes_eq}
use Rattle.std.specs.Char.{is_ascii_digit, is_ascii_lowercase, is_ascii_uppercase}
use Rattle.std.proofs.lemmas.Bool.Decides.{nat_tests}
use Rattle.std.proofs.lemmas.Bool.{eqb-true}
use Rattle.std.proofs.lemmas.List.{take_at}
use Rattle.formula_ast.specs.declared.token.TokenKind.{TokenKind}
use Rattle.formula_ast.specs.declared.token.TokenKind.TheVariants as k
use Rattle.formula_ast.specs.Tokens.{is_word_byte, is_number, kind_in, kind_of, reserved, marks, front}
use Rattle.formula_tokens.specs.Fronts.{begins_word, separates}
use Rattle.formula_tokens.proofs.Begins.{word_begins, variable_begins, number_begins, further_begins, mark_of_one, mark_of_two, mark_of_three}
use Rattle.formula_tokens.proofs.Texts.{small, capital, name, no_name, variable, no_variable, number, no_number, further, mark}
use Rattle.formula_grammar.specs.Written.{Text}

-- the text is the longest token at its front with these bytes behind it, and of this kind
pub record IsFront (kind : TokenKind) (text : Text) (tail : List ℕ) : Type 0 where
  pub longest : front (text ++ tail) ≡ Some (kind, length text)
  pub some : 0 < length text
  pub plain : separates (get_or (text ++ tail) 0 0) ≡ false

-- no byte of a word stands at the front
abbrev pub Ends : List ℕ → Type 0
Ends tail = is_word_byte (get_or tail 0 0) ≡ false

-- ---- texts of each kind

-- what a table says passes a test that all its kinds pass
pub listed : (q : TokenKind → Bool) (table : List (Text × TokenKind)) (text : Text) (kind : TokenKind)
    → list_all (λ form. q form.1) table ≡ true → kind_in table text ≡ Some kind → q kind ≡ true
listed q [] text kind all e = absurd (cc e)
listed q (form ∷ table) text kind all e = step (λ rest. listed q table text kind rest) (bytes_eq text form.0) refl (q form.1) refl all e
  where
    step : (list_all (λ f. q f.1) table ≡ true → kind_in table text ≡ Some kind → q kind ≡ true) → (x : Bool) → bytes_eq text form.0 ≡ x → (y : Bool) → q form.1 ≡ y
        → (y && list_all (λ f. q f.1) table) ≡ true → cond x (Some form.1) (kind_in table text) ≡ Some kind → q kind ≡ true
    step rest x at false y h is = absurd (cc h)
    step rest true at true y h is = let same : form.1 ≡ kind = cc is in ap q (sym same) ∙ y
    step rest false at true y h is = rest h is

abbrev is_other : TokenKind → Bool
is_other k.Variable = false
is_other k.Name = false
is_other kind = true

not_other : (table : List (Text × TokenKind)) (text : Text) (kind : TokenKind) → list_all (λ form. is_other form.1) table ≡ true → is_other kind ≡ false
    → ¬ (kind_in table text ≡ Some kind)
not_other table text kind all other e = let yes = listed is_other table text kind all e in let no : true ≡ false = sym yes ∙ other in absurd (cc no)

no_reserved_variable : (found : Option TokenKind) → ¬ (found ≡ Some k.Variable) → ¬ (◌≡◌ {A = Option TokenKind} (Some (unwrap_or found k.Name)) (Some k.Variable))
no_reserved_variable None h e = absurd (cc e)
no_reserved_variable (Some kind) h e = h e

abbrev all_word : Text → Bool
all_word t = list_all (λ c. is_word_byte c) t

abbrev all_digits : Text → Bool
all_digits t = list_all (λ c. is_ascii_digit c) t

-- the kind of a text that begins with a digit, or with `$`
digits_kind : (b : ℕ) (t : Text) (kind : TokenKind) → is_ascii_digit b ≡ true → ¬ (k.Number ≡ kind) → ¬ (kind_of (b ∷ t) ≡ Some kind)
digits_kind b t kind d other e = step (all_digits t) refl
  where
    step : (w : Bool) → all_digits t ≡ w → ⊥
    step true w = let is = number b t d w in let same : k.Number ≡ kind = cc in other same
    step false w = let is = no_number b t d w in absurd (cc)

further_kind : (t : Text) (kind : TokenKind) → ¬ (k.Further ≡ kind) → ¬ (kind_of (36 ∷ t) ≡ Some kind)
further_kind t kind other e = step (is_number t) (sym (further t) ∙ e)
  where
    step : (w : Bool) → cond w (Some k.Further) None ≡ Some kind → ⊥
    step true is = let same : k.Further ≡ kind = cc is in other same
    step false is = absurd (cc is)

-- the kind of a text that begins with no letter
else_kind : (b : ℕ) (t : Text) (kind : TokenKind) → is_other kind ≡ false → ¬ (k.Number ≡ kind) → ¬ (k.Further ≡ kind)
    → is_ascii_lowercase b ≡ false → is_ascii_uppercase b ≡ false → ¬ (kind_of (b ∷ t) ≡ Some kind)
else_kind b t kind other not_number not_further l u e = step (is_ascii_digit b) refl (b == 36) refl
  where
    step : (d : Bool) → is_ascii_digit b ≡ d → (m : Bool) → (b == 36) ≡ m → ⊥
    step true d m is = digits_kind b t kind d not_number e
    step false d true m = further_kind t kind not_further (rw (eqb-true b 36 m) at e)
    step false d false m =
        let plain : begins_word b ≡ false = rw (l, u, d, m) refl in
        not_other marks (b ∷ t) kind refl other (sym (mark b t plain) ∙ e)

variable_shape : (b : ℕ) (t : Text) → kind_of (b ∷ t) ≡ Some k.Variable → (is_ascii_uppercase b ≡ true) × (all_word t ≡ true)
variable_shape b t e = step (is_ascii_lowercase b) refl (is_ascii_uppercase b) refl (all_word t) refl
  where
    step : (l : Bool) → is_ascii_lowercase b ≡ l → (u : Bool) → is_ascii_uppercase b ≡ u → (w : Bool) → all_word t ≡ w → (is_ascii_uppercase b ≡ true) × (all_word t ≡ true)
    step true l u is true w = absurd (no_reserved_variable (kind_in reserved (b ∷ t)) (not_other reserved (b ∷ t) k.Variable refl refl) (sym (name b t l w) ∙ e))
    step true l u is false w = let none = no_name b t l w in absurd (cc)
    step false l true u true w = (u, w)
    step false l true u false w = let none = no_variable b t u w in absurd (cc)
    step false l false u x w = absurd (else_kind b t k.Variable refl (λ h. absurd (cc h)) (λ h. absurd (cc h)) l u e)

name_shape : (b : ℕ) (t : Text) → kind_of (b ∷ t) ≡ Some k.Name → (is_ascii_lowercase b ≡ true) × (all_word t ≡ true)
name_shape b t e = step (is_ascii_lowercase b) refl (is_ascii_uppercase b) refl (all_word t) refl
  where
    step : (l : Bool) → is_ascii_lowercase b ≡ l → (u : Bool) → is_ascii_uppercase b ≡ u → (w : Bool) → all_word t ≡ w → (is_ascii_lowercase b ≡ true) × (all_word t ≡ true)
    step true l u is true w = (l, w)
    step true l u is false w = let none = no_name b t l w in absurd (cc)
    step false l true u true w = let some = variable b t u w in absurd (cc)
    step false l true u false w = let none = no_variable b t u w in absurd (cc)
    step false l false u x w = absurd (else_kind b t k.Name refl (λ h. absurd (cc h)) (λ h. absurd (cc h)) l u e)

-- ---- words

-- a run that ends where the text does
exact : (p : ℕ → Bool) (t tail : List ℕ) → list_all p t ≡ true → p (get_or tail 0 0) ≡ false → prefix_len p (t ++ tail) ≡ length t
exact p [] [] all ends = refl
exact p [] (c ∷ tail) all ends = rw ends refl
exact p (b ∷ t) tail all ends = step (λ rest. exact p t tail rest ends) (p b) refl all
  where
    step : (list_all p t ≡ true → prefix_len p (t ++ tail) ≡ length t) → (x : Bool) → p b ≡ x → (x && list_all p t) ≡ true → cond x (1 + prefix_len p (t ++ tail)) 0 ≡ suc (length t)
    step rest true is h = one-add (prefix_len p (t ++ tail)) ∙ ap suc (rest h)
    step rest false is h = absurd (cc h)

small_plain : (b : ℕ) → is_ascii_lowercase b ≡ true → separates b ≡ false
small_plain b h = grind (arith, nat_tests)

capital_plain : (b : ℕ) → is_ascii_uppercase b ≡ true → separates b ≡ false
capital_plain b h = grind (arith, nat_tests)

digit_plain : (b : ℕ) → is_ascii_digit b ≡ true → separates b ≡ false
digit_plain b h = grind (arith, nat_tests)

no_digit : (b : ℕ) → is_word_byte b ≡ false → is_ascii_digit b ≡ false
no_digit b h = grind (arith, nat_tests)

-- a name or a reserved word
pub small_front : (b : ℕ) (t : Text) (kind : TokenKind) (tail : List ℕ) → is_ascii_lowercase b ≡ true → all_word t ≡ true → unwrap_or (kind_in reserved (b ∷ t)) k.Name ≡ kind
    → Ends tail → IsFront kind (b ∷ t) tail
small_front b t kind tail l all is ends =
    let whole : all_word (b ∷ t) ≡ true = rw (small b l).0 all in
    record {
      longest =
          word_begins ((b ∷ t) ++ tail) l (length (b ∷ t)) (sym (exact (λ c. is_word_byte c) (b ∷ t) tail whole ends))
          ∙ ap (λ x. Some (unwrap_or (kind_in reserved x) k.Name, length (b ∷ t))) (take_at (b ∷ t) tail (length (b ∷ t)) refl)
          ∙ ap (λ x. Some (x, length (b ∷ t))) is;
      some = omega arith;
      plain = small_plain b l;
    }

pub name_front : (x : Text) (tail : List ℕ) → kind_of x ≡ Some k.Name → Ends tail → IsFront k.Name x tail
unfolding kind_of
name_front [] tail e ends = absurd (cc e)
name_front (b ∷ t) tail e ends =
    let s = name_shape b t e in
    let is : ◌≡◌ {A = Option TokenKind} (Some (unwrap_or (kind_in reserved (b ∷ t)) k.Name)) (Some k.Name) = sym (name b t s.0 s.1) ∙ e in
    small_front b t k.Name tail s.0 s.1 (cc is) ends

pub variable_front : (x : Text) (tail : List ℕ) → kind_of x ≡ Some k.Variable → Ends tail → IsFront k.Variable x tail
unfolding kind_of
variable_front [] tail e ends = absurd (cc e)
variable_front (b ∷ t) tail e ends =
    let s = variable_shape b t e in
    let whole : all_word (b ∷ t) ≡ true = rw (capital b s.0).0 s.1 in
    record {
      longest = variable_begins ((b ∷ t) ++ tail) s.0 ∙ ap (λ n. Some (k.Variable, n)) (exact (λ c. is_word_byte c) (b ∷ t) tail whole ends);
      some = omega arith;
      plain = capital_plain b s.0;
    }

and_left : (x y : Bool) → (x && y) ≡ true → x ≡ true
and_left true y h = refl
and_left false y h = absurd (cc h)

pub number_front : (x : Text) (tail : List ℕ) → is_number x ≡ true → Ends tail → IsFront k.Number x tail
number_front [] tail e ends = absurd (cc e)
number_front (b ∷ t) tail e ends =
    let first = and_left (is_ascii_digit b) (all_digits t) e in
    record {
      longest =
          number_begins ((b ∷ t) ++ tail) first
          ∙ ap (λ n. Some (k.Number, n)) (exact (λ c. is_ascii_digit c) (b ∷ t) tail e (no_digit (get_or tail 0 0) ends));
      some = omega arith;
      plain = digit_plain b first;
    }

number_digits : (d : Text) → is_number d ≡ true → (all_digits d ≡ true) × (0 < length d)
number_digits [] h = absurd (cc h)
number_digits (b ∷ t) h = (h, omega arith)

pub further_front : (d : Text) (tail : List ℕ) → is_number d ≡ true → Ends tail → IsFront k.Further (36 ∷ d) tail
further_front d tail e ends =
    let digits = number_digits d e in
    record {
      longest =
          further_begins (36 ∷ (d ++ tail)) (length d) refl
          (sym (exact (λ c. is_ascii_digit c) d tail digits.0 (no_digit (get_or tail 0 0) ends))) digits.1
          ∙ ap (λ n. Some (k.Further, n)) (add-one (length d));
      some = omega arith;
      plain = refl;
    }

-- ---- marks

one_front : (a : ℕ) (kind : TokenKind) (tail : List ℕ) → begins_word a ≡ false → separates a ≡ false
    → kind_in marks (a ∷ get_or tail 0 0 ∷ get_or tail 1 0 ∷ []) ≡ None → kind_in marks (a ∷ get_or tail 0 0 ∷ []) ≡ None → kind_in marks (a ∷ []) ≡ Some kind
    → IsFront kind (a ∷ []) tail
one_front a kind tail h plain e3 e2 e = record {
  longest = sym (mark_of_one (a ∷ tail) a (get_or tail 0 0) (get_or tail 1 0) h refl refl refl (Some kind) e3 e2 e);
  some = omega arith;
  plain = plain;
}

pub left_front : (tail : List ℕ) → IsFront k.LeftParen (codes "(") tail
left_front tail = one_front 40 k.LeftParen tail refl refl refl refl refl

pub right_front : (tail : List ℕ) → IsFront k.RightParen (codes ")") tail
right_front tail = one_front 41 k.RightParen tail refl refl refl refl refl

pub comma_front : (tail : List ℕ) → IsFront k.Comma (codes ",") tail
comma_front tail = one_front 44 k.Comma tail refl refl refl refl refl

pub stop_front : (tail : List ℕ) → IsFront k.Stop (codes ".") tail
stop_front tail = one_front 46 k.Stop tail refl refl refl refl refl

pub slash_front : (tail : List ℕ) → IsFront k.Slash (codes "/") tail
slash_front tail = one_front 47 k.Slash tail refl refl refl refl refl

pub amp_front : (tail : List ℕ) → IsFront k.Amp (codes "&") tail
amp_front tail = one_front 38 k.Amp tail refl refl refl refl refl

pub bar_front : (tail : List ℕ) → IsFront k.Bar (codes "|") tail
bar_front tail = one_front 124 k.Bar tail refl refl refl refl refl

pub tilde_front : (tail : List ℕ) → IsFront k.Tilde (codes "~") tail
tilde_front tail = one_front 126 k.Tilde tail refl refl refl refl refl

pub equal_front : (tail : List ℕ) → IsFront k.Equal (codes "=") tail
equal_front tail = one_front 61 k.Equal tail refl refl refl refl refl

-- a colon with a blank behind it
pub colon_front : (tail : List ℕ) → IsFront k.Colon (codes ":") (32 ∷ tail)
colon_front tail = one_front 58 k.Colon (32 ∷ tail) refl refl refl refl refl

pub differ_front : (tail : List ℕ) → IsFront k.Differ (codes "!=") tail
differ_front tail = record {
  longest = sym (mark_of_two (33 ∷ 61 ∷ tail) 33 61 (get_or tail 0 0) refl refl refl refl k.Differ refl refl);
  some = omega arith;
  plain = refl;
}

pub define_front : (tail : List ℕ) → IsFront k.Define (codes ":=") tail
define_front tail = record {
  longest = sym (mark_of_two (58 ∷ 61 ∷ tail) 58 61 (get_or tail 0 0) refl refl refl refl k.Define refl refl);
  some = omega arith;
  plain = refl;
}

pub arrow_front : (tail : List ℕ) → IsFront k.Arrow (codes "->") tail
arrow_front tail = record {
  longest = sym (mark_of_two (45 ∷ 62 ∷ tail) 45 62 (get_or tail 0 0) refl refl refl refl k.Arrow refl refl);
  some = omega arith;
  plain = refl;
}

pub double_front : (tail : List ℕ) → IsFront k.DoubleArrow (codes "<->") tail
double_front tail = record {
  longest = sym (mark_of_three (60 ∷ 45 ∷ 62 ∷ tail) 60 45 62 refl refl refl refl k.DoubleArrow refl);
  some = omega arith;
  plain = refl;
}
