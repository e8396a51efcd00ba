-- Texts as words with blanks between them.
use Rattle.std.proofs.Common.{◌≡◌, ℕ, suc, ◌+◌, ◌-◌, ◌≤◌, true, false, List, [], ◌∷◌, ◌++◌, take, drop, length, get_or, Some, refl, sym, ap, ◌∙◌, subst, arith, length-drop, length-append}
use Rattle.std.proofs.lemmas.List.{take_at, drop_at, drop-drop}
use Rattle.formula_ast.specs.declared.token.TokenKind.{TokenKind}
use Rattle.formula_ast.specs.Tokens.{end, token, tokens_at, tokens_of, token_of, front, Word}
use Rattle.formula_tokens.specs.Fronts.{separates}
use Rattle.formula_tokens.proofs.Streams.{at_end, at_token, reaches}
use Rattle.formula_grammar.specs.Begins.{BeginsWith}
use Rattle.formula_grammar.specs.Words.{word, word_of}
use Rattle.formula_grammar.specs.Written.{Text}
use Rattle.formula_printer.proofs.Fronts.{IsFront}

pub data Piece : Type 0 where
  blank : Piece
  line_feed : Piece
  piece : TokenKind → Text → Piece

abbrev pub bytes_of : List Piece → List ℕ
bytes_of [] = []
bytes_of (blank ∷ ps) = 32 ∷ bytes_of ps
bytes_of (line_feed ∷ ps) = 10 ∷ bytes_of ps
bytes_of (piece kind text ∷ ps) = text ++ bytes_of ps

abbrev pub words_of : List Piece → List Word
words_of [] = []
words_of (blank ∷ ps) = words_of ps
words_of (line_feed ∷ ps) = words_of ps
words_of (piece kind text ∷ ps) = word kind text ∷ words_of ps

-- each word is the longest token where it stands
abbrev pub AreApart : List Piece → Type 0
AreApart [] = Unit {0}
AreApart (blank ∷ ps) = AreApart ps
AreApart (line_feed ∷ ps) = AreApart ps
AreApart (piece kind text ∷ ps) = IsFront kind text (bytes_of ps) × AreApart ps

front_is : (tail : List ℕ) (kind : TokenKind) (text rest : List ℕ) → tail ≡ text ++ rest → IsFront kind text rest
    → (separates (get_or tail 0 0) ≡ false) × (Some (kind, length text) ≡ front tail) × (length text ≤ length tail)
front_is tail kind text rest is f = (
  ap (λ l. separates (get_or l 0 0)) is ∙ f.plain,
  sym (ap front is ∙ f.longest),
  omega (arith, ap (λ l. length l) is, length-append text rest),
)

word_is : (bytes : List ℕ) (at : ℕ) (kind : TokenKind) (text rest : List ℕ) → drop at bytes ≡ text ++ rest → word_of bytes (token_of kind at (length text)) ≡ word kind text
word_is bytes at kind text rest is =
    let size : (at + length text) - at ≡ length text = omega arith in
    ap (word kind) (ap (λ n. take n (drop at bytes)) size ∙ ap (λ l. take (length text) l) is ∙ take_at text rest (length text) refl)

-- a byte that stands between words is passed over
pass : (bytes : List ℕ) (b : ℕ) (rest : List ℕ) (words : List Word) (at : ℕ) → at ≤ length bytes → drop at bytes ≡ b ∷ rest → ((n : ℕ) → tokens_of 0 n (b ∷ rest) ≡ tokens_of 0 (n + 1) rest)
    → (at + 1 ≤ length bytes → drop (at + 1) bytes ≡ rest → BeginsWith bytes (tokens_at bytes (at + 1)) words (end (length bytes)))
    → BeginsWith bytes (tokens_at bytes at) words (end (length bytes))
pass bytes b rest words at within is passed later =
    let size : length (drop at bytes) ≡ suc (length rest) = ap (λ l. length l) is in
    let more : at + 1 ≤ length bytes = omega (arith, size, length-drop at bytes) in
    let behind : drop (at + 1) bytes ≡ rest = sym (drop-drop 1 at bytes) ∙ ap (λ l. drop 1 l) is in
    let passes : tokens_at bytes at ≡ tokens_at bytes (at + 1) = reaches bytes (b ∷ rest) at 1 (sym is) passed in
    subst (λ s. BeginsWith bytes s words (end (length bytes))) (sym passes) (later more behind)

-- a text of words that are apart has these words as its tokens
pub has_tokens : (bytes : List ℕ) (ps : List Piece) (at : ℕ) → at ≤ length bytes → drop at bytes ≡ bytes_of ps → AreApart ps
    → BeginsWith bytes (tokens_at bytes at) (words_of ps) (end (length bytes))
has_tokens bytes [] at within is apart =
    let none : length (drop at bytes) ≡ 0 = ap (λ l. length l) is in
    let same : at ≡ length bytes = omega (arith, none, length-drop at bytes) in
    ap (λ n. tokens_at bytes n) same ∙ at_end bytes
has_tokens bytes (blank ∷ ps) at within is apart = pass bytes 32 (bytes_of ps) (words_of ps) at within is (λ n. refl) (λ more rest. has_tokens bytes ps (at + 1) more rest apart)
has_tokens bytes (line_feed ∷ ps) at within is apart = pass bytes 10 (bytes_of ps) (words_of ps) at within is (λ n. refl) (λ more rest. has_tokens bytes ps (at + 1) more rest apart)
has_tokens bytes (piece kind text ∷ ps) at within is (f, apart) =
    let p = front_is (drop at bytes) kind text (bytes_of ps) is f in
    let here : tokens_at bytes at ≡ token (token_of kind at (length text)) (tokens_at bytes (at + length text)) =
    at_token bytes (drop at bytes) at kind (length text) refl p.0 p.1 f.some p.2 in
    let more : at + length text ≤ length bytes = omega (arith, p.2, length-drop at bytes) in
    let rest : drop (at + length text) bytes ≡ bytes_of ps =
    sym (drop-drop (length text) at bytes) ∙ ap (λ l. drop (length text) l) is ∙ drop_at text (bytes_of ps) (length text) refl in
    subst (λ s. BeginsWith bytes s (word kind text ∷ words_of ps) (end (length bytes))) (sym here)
    (word_is bytes at kind text (bytes_of ps) is, has_tokens bytes ps (at + length text) more rest apart)
