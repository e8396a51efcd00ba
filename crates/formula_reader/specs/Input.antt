-- What a reader shows.
use Rattle.std.specs.Prelude.{◌≡◌, ◌≤◌, ◌<◌, ℕ, Bool, false, List, [], ◌∷◌, length, slice_range, Option, Some, None, Result, Ok, Err}
use Rattle.std.specs.Str.{IsAscii}
use Rattle.tree_model.specs.Signatures.{Signature}
use Rattle.formula_ast.specs.declared.token.Token.{Token}
use Rattle.formula_ast.specs.declared.token.TokenKind.{TokenKind}
use Rattle.formula_ast.specs.Tokens.{Stream, end, bad, token, tokens_at, Word}
use Rattle.formula_grammar.specs.declared.fault.FaultKind.{FaultKind}
use Rattle.formula_grammar.specs.Written.{Text}
use Rattle.formula_grammar.specs.Words.{same, word_of}
use Rattle.formula_grammar.specs.Machine.{Place}
use Rattle.formula_grammar.specs.Checks.{Environment}
use Rattle.formula_grammar.specs.Meaning.{first_occurrences}
use Rattle.formula_reader.specs.declared.place.Place.{Place as PlaceRead}

-- The names of a statement's variables so far, and those of them that are bound where the reader is, the outermost first.
pub record Scope : Type 0 where
  pub names : List Text
  pub bound : List Text

-- and these names besides, each by its first occurrence
abbrev pub added : Scope → List Text → Scope
added scope xs = record { names = first_occurrences scope.names xs; bound = scope.bound }

-- A text that is read up to an offset; what is wrong with the next token, if the grammar allows it; how many `&`, `|` and
-- variables of quantifiers the statement has so far; and its variables.
pub record Input : Type 0 where
  pub bytes : List ℕ
  pub at : ℕ
  pub pending : Option FaultKind
  pub joints : ℕ
  pub scope : Scope

-- the tokens that are still to be read
abbrev pub left_of : Input → Stream
left_of i = tokens_at i.bytes i.at

-- the words of a text's tokens, up to its end or a byte that begins none
abbrev pub words_of : List ℕ → Stream → List Word
words_of bytes (end at) = []
words_of bytes (bad at) = []
words_of bytes (token t more) = word_of bytes t ∷ words_of bytes more

abbrev pub words_left : Input → List Word
words_left i = words_of i.bytes (left_of i)

-- what is kept of the tokens that are left: the first, whose text is ASCII, if there is one, or the byte that begins none
abbrev pub IsNext : List ℕ → ℕ → Result (Option Token) ℕ → Type 0
IsNext bytes at (Ok (Some t)) =
    (tokens_at bytes at ≡ token t (tokens_at bytes t.to)) × (at < t.to) × (t.from ≤ t.to) × (t.to ≤ length bytes)
    × IsAscii (slice_range bytes t.from t.to)
IsNext bytes at (Ok None) = tokens_at bytes at ≡ end (length bytes)
IsNext bytes at (Err n) = tokens_at bytes at ≡ bad n

-- the next token is of this kind
abbrev pub starts : TokenKind → Stream → Bool
starts kind (token t more) = same t.kind kind
starts kind (end at) = false
starts kind (bad at) = false

-- the text of the next token
abbrev pub text_at : List ℕ → Stream → Text
text_at bytes (token t more) = slice_range bytes t.from t.to
text_at bytes (end at) = []
text_at bytes (bad at) = []

abbrev pub text_ahead : Input → Text
text_ahead i = text_at i.bytes (left_of i)

abbrev pub environment : Signature → ℕ → Environment
environment σ joints = record { signature = σ; joints = joints }

-- where a reader is in a formula, as the grammar's machine sees it
abbrev pub place_of : Input → PlaceRead → Place
place_of i p = record { depth = p.depth; bound = i.scope.bound; closed = p.closed }
