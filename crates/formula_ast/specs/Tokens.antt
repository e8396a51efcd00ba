-- What a text is made of: blanks, comments and tokens.
use Rattle.std.specs.Prelude.{ℕ, zero, suc, ◌+◌, ◌-◌, Bool, false, not, ◌&&◌, ◌||◌, ◌==◌, if◌then◌else◌, List, [], ◌∷◌, take, drop, length, Option, Some, None, codes, slice_range}
use Rattle.std.specs.List.{prefix_len, list_all}
use Rattle.std.specs.Map.{lookup}
use Rattle.std.specs.Option.{option_map, option_or}
use Rattle.std.specs.Str.{bytes_eq}
use Rattle.std.specs.Char.{is_ascii_digit, is_ascii_alphanumeric, is_ascii_lowercase, is_ascii_uppercase}
use Rattle.formula_ast.specs.declared.token.Token.{Token}
use Rattle.formula_ast.specs.declared.token.TokenKind.{TokenKind}
use Rattle.formula_ast.specs.declared.token.TokenKind.TheVariants as k

-- the blanks: space, tab, line feed and carriage return
abbrev pub is_blank : ℕ → Bool
is_blank b = b == 32 || b == 9 || b == 10 || b == 13

-- a letter, a digit or `_`
abbrev pub is_word_byte : ℕ → Bool
is_word_byte b = is_ascii_alphanumeric b || b == 95

-- the words that are no names
abbrev pub reserved : List (List ℕ × TokenKind)
reserved =
    (codes "symbol", k.Symbol) ∷ (codes "pred", k.Pred) ∷ (codes "solve", k.Solve)
    ∷ (codes "exists", k.Exists) ∷ (codes "forall", k.Forall) ∷ (codes "finite", k.Finite)
    ∷ (codes "win", k.Win) ∷ (codes "true", k.«True») ∷ (codes "false", k.«False») ∷ []

-- the marks, and what each is called
abbrev pub marks : List (List ℕ × TokenKind)
marks =
    (codes "(", k.LeftParen) ∷ (codes ")", k.RightParen) ∷ (codes ",", k.Comma) ∷ (codes ".", k.Stop)
    ∷ (codes "/", k.Slash) ∷ (codes "&", k.Amp) ∷ (codes "|", k.Bar) ∷ (codes "~", k.Tilde)
    ∷ (codes "=", k.Equal) ∷ (codes "!=", k.Differ) ∷ (codes ":", k.Colon) ∷ (codes ":=", k.Define)
    ∷ (codes "->", k.Arrow) ∷ (codes "<->", k.DoubleArrow) ∷ []

-- the kind beside this text in a table
abbrev pub kind_in : List (List ℕ × TokenKind) → List ℕ → Option TokenKind
kind_in table text = lookup (λ form. bytes_eq text form) table

-- one or more digits
abbrev pub is_number : List ℕ → Bool
is_number [] = false
is_number (b ∷ bs) = is_ascii_digit b && list_all (λ c. is_ascii_digit c) bs

-- the kind of a text that is neither a reserved word nor a mark: a name begins with a small letter, a variable with a
-- capital one, and `$` stands before the number of a further symbol
abbrev pub kind_by_form : List ℕ → Option TokenKind
kind_by_form [] = None
kind_by_form (b ∷ bs) =
    if is_ascii_lowercase b && list_all (λ c. is_word_byte c) bs then Some k.Name
    else (if is_ascii_uppercase b && list_all (λ c. is_word_byte c) bs then Some k.Variable
    else (if is_number (b ∷ bs) then Some k.Number
    else (if b == 36 && is_number bs then Some k.Further
    else None)))

-- what kind of token a whole text is, if it is one
unfoldable pub kind_of : List ℕ → Option TokenKind
kind_of text = option_or (kind_in reserved text) (option_or (kind_in marks text) (kind_by_form text))

-- the longest token that a text begins with, among those of at most so many bytes, with its length
abbrev pub longest : ℕ → List ℕ → Option (TokenKind × ℕ)
longest zero text = None
longest (suc n) text = option_or (option_map (λ kind. (kind, suc n)) (kind_of (take (suc n) text))) (longest n text)

-- the longest token that a text begins with, and its length
unfoldable pub front : List ℕ → Option (TokenKind × ℕ)
front text = longest (length text) text

-- the tokens of a text, each with its place: up to the end of the text, at an offset that is the number of its bytes, or up
-- to the offset of the first byte behind blanks, comments and tokens that begins no token
pub data Stream : Type 0 where
  end : ℕ → Stream
  bad : ℕ → Stream
  token : Token → Stream → Stream

-- the token of this kind and length that begins at an offset
abbrev pub token_of : TokenKind → ℕ → ℕ → Token
token_of kind from len = record { kind = kind; from = from; to = from + len }

-- what a token that was found at an offset begins, where `more` passes over so many further bytes and goes on
abbrev pub begun : Option (TokenKind × ℕ) → ℕ → (ℕ → Stream) → Stream
begun None at more = bad at
begun (Some (kind, len)) at more = token (token_of kind at len) (more (len - 1))

-- how many bytes of a comment are left: those before the next line feed
abbrev pub comment_len : List ℕ → ℕ
comment_len bs = prefix_len (λ b. not (b == 10)) bs

-- the tokens of the bytes that begin at the offset `at`, of which the first few are passed over
abbrev pub tokens_of : ℕ → ℕ → List ℕ → Stream
tokens_of passed at [] = end at
tokens_of (suc passed) at (b ∷ bs) = tokens_of passed (at + 1) bs
tokens_of zero at (b ∷ bs) =
    if is_blank b then tokens_of zero (at + 1) bs
    else (if b == 37 then tokens_of (comment_len bs) (at + 1) bs
    else begun (front (b ∷ bs)) at (λ n. tokens_of n (at + 1) bs))

-- the tokens of a text from an offset on
unfoldable pub tokens_at : List ℕ → ℕ → Stream
tokens_at bytes from = tokens_of 0 from (drop from bytes)

-- what the grammar sees of a token: its kind and its text
pub record Word : Type 0 where
  pub kind : TokenKind
  pub text : List ℕ

-- a token's word, from the bytes that it stands in
abbrev pub word_of : List ℕ → Token → Word
word_of bytes t = record { kind = t.kind; text = slice_range bytes t.from t.to }
