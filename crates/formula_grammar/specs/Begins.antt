-- What the grammar alone says of where a text stops being a front of a file or of a formula.
use Rattle.std.specs.Prelude.{◌≡◌, ℕ, List, [], ◌∷◌, ◌++◌}
use Rattle.formula_ast.specs.declared.token.Token.{Token}
use Rattle.formula_ast.specs.Tokens.{Stream, end, bad, token, Word}
use Rattle.formula_grammar.specs.declared.fault.Fault.{Fault}
use Rattle.formula_grammar.specs.declared.fault.FaultKind.{FaultKind}
use Rattle.formula_grammar.specs.declared.fault.FaultKind.TheVariants.{Byte, Ended, Syntax}
use Rattle.formula_grammar.specs.Written.{WrittenFormula}
use Rattle.formula_grammar.specs.Words.{word_of, WrittenStatement}
use Rattle.formula_grammar.specs.Grammar.{IsFile, IsFormula}

-- the tokens of a text begin with these words, and then come the others
abbrev pub BeginsWith : List ℕ → Stream → List Word → Stream → Type 0
BeginsWith bytes tokens [] rest = tokens ≡ rest
BeginsWith bytes (token t more) (w ∷ ws) rest = (word_of bytes t ≡ w) × BeginsWith bytes more ws rest
BeginsWith bytes (end at) (w ∷ ws) rest = ⊥
BeginsWith bytes (bad at) (w ∷ ws) rest = ⊥

-- the words read as a file, whatever its statements are
abbrev pub IsSomeFile : List Word → Type 0
IsSomeFile ws = (statements : List WrittenStatement) × IsFile ws statements

-- the words read as a formula
abbrev pub IsSomeFormula : List Word → Type 0
IsSomeFormula ws = (f : WrittenFormula) × IsFormula ws f

-- where `IsWhole` says which words are a whole text
module _ (IsWhole : List Word → Type 0) where
  -- some whole text begins with these words
  abbrev pub CanBegin : List Word → Type 0
  CanBegin ws = (more : List Word) × IsWhole (ws ++ more)

  -- A fault stands at the first place where the grammar alone sees one, or the grammar has nothing against the words up
  -- to its place: a byte that begins no token; the end of the input, behind words that are no whole text and begin one;
  -- a word with which no whole text begins, while one begins with those before it; or another fault of a word, or of
  -- the end.
  pub data StandsRight (bytes : List ℕ) (tokens : Stream) : Fault → Type 0 where
    at_byte : {at : ℕ} (before : List Word) → BeginsWith bytes tokens before (bad at) → CanBegin before
        → StandsRight bytes tokens (record { offset = at; kind = Byte })
    at_end : {at : ℕ} (before : List Word) → BeginsWith bytes tokens before (end at) → CanBegin before → ¬ IsWhole before
        → StandsRight bytes tokens (record { offset = at; kind = Ended })
    at_word : (t : Token) (more : Stream) (before : List Word) → BeginsWith bytes tokens before (token t more) → CanBegin before
        → ¬ CanBegin (before ++ word_of bytes t ∷ []) → StandsRight bytes tokens (record { offset = t.from; kind = Syntax })
    of_word : (t : Token) (more : Stream) {kind : FaultKind} (before : List Word) → BeginsWith bytes tokens before (token t more)
        → CanBegin (before ++ word_of bytes t ∷ []) → ¬ (kind ≡ Syntax) → ¬ (kind ≡ Ended) → ¬ (kind ≡ Byte)
        → StandsRight bytes tokens (record { offset = t.from; kind = kind })
    of_end : {at : ℕ} {kind : FaultKind} (before : List Word) → BeginsWith bytes tokens before (end at) → IsWhole before
        → ¬ (kind ≡ Syntax) → ¬ (kind ≡ Ended) → ¬ (kind ≡ Byte) → StandsRight bytes tokens (record { offset = at; kind = kind })
