-- Which input the words name, and which bytes it has.
use Rattle.std.specs.Prelude.{◌≡◌, ℕ, List, Option, Some, Result, IsSomeAnd}
use Rattle.io_edge.specs.declared.failed.Failed.{Failed}
use Rattle.io_edge.specs.Edge.{IsMissing}
use Rattle.command_words.specs.Words as words
use Rattle.command_words.specs.Words.{Input, input_of}
use Rattle.stored_games.specs.Games.{game_names, game_text}
use Rattle.written_files.specs.Files.{file_text}
use Rattle.generator.specs.Generated.{generated}
use Rattle.solver_cli.specs.Files.{IsReadFile, OfNamed}

-- the input that the words name; none where they are refused
abbrev pub named_input : List (List ℕ) → Option Input
named_input texts = input_of game_names texts

-- the input is a file, and P holds of its name
abbrev pub IsFileWith : (List ℕ → Type 0) → Input → Type 0
IsFileWith P (words.file name) = P name
IsFileWith P (words.game name) = ⊥
IsFileWith P (words.generated questions) = ⊥

-- the words name a file, and P holds of its name
abbrev pub OfName : List (List ℕ) → (List ℕ → Type 0) → Type 0
OfName texts P = IsSomeAnd (named_input texts) (IsFileWith P)

-- the words name a file
abbrev pub NamesAFile : List (List ℕ) → Type 0
NamesAFile texts = OfName texts (λ name. Unit {0})

-- the words name a file, and it is missing from the files that the source tells
abbrev pub NamesNoFile : Option (List (List ℕ × List ℕ)) → List (List ℕ) → Type 0
NamesNoFile files texts = OfName texts (λ name. IsMissing files name)

-- the input is there: a file that is not missing from those that the source tells, or a text that takes no file
abbrev pub IsThere : Option (List (List ℕ × List ℕ)) → Input → Type 0
IsThere files (words.file name) = ¬ IsMissing files name
IsThere files (words.game name) = Unit {0}
IsThere files (words.generated questions) = Unit {0}

-- the words name an input that is there
abbrev pub NamesWhatIsThere : Option (List (List ℕ × List ℕ)) → List (List ℕ) → Type 0
NamesWhatIsThere files texts = IsSomeAnd (named_input texts) (IsThere files)

-- the input is a stored game or a generated text
abbrev pub IsOwnText : Input → Type 0
IsOwnText (words.file name) = ⊥
IsOwnText (words.game name) = Unit {0}
IsOwnText (words.generated questions) = Unit {0}

-- the words name a stored game or a generated text
abbrev pub NamesOwnText : List (List ℕ) → Type 0
NamesOwnText texts = IsSomeAnd (named_input texts) IsOwnText

module _ {S : Type 0} (opens : S → List ℕ → Result (Unit {0}) Failed → S → Type 0) (reads : S → ℕ → Result ℕ Failed → List ℕ → S → Type 0) (left : S → Option (List ℕ)) (files : S → Option (List (List ℕ × List ℕ))) where
  -- these are the bytes of the input: of a file as it was read, and else of the text of the game or of so many questions,
  -- where the source is as before
  abbrev pub AreBytesOf : Input → S → List ℕ → S → Type 0
  AreBytesOf (words.file name) old bytes new = IsReadFile opens reads left files name old bytes new
  AreBytesOf (words.game name) old bytes new = (game_text name ≡ Some bytes) × (new ≡ old)
  AreBytesOf (words.generated questions) old bytes new = (bytes ≡ file_text (generated questions)) × (new ≡ old)

  -- the input has bytes with P
  abbrev pub OfBytes : Input → S → S → (List ℕ → Type 0) → Type 0
  OfBytes input old new P = (bytes : List ℕ) × AreBytesOf input old bytes new × P bytes

  -- the words name an input, it has such bytes, and P holds of it and of them
  abbrev pub OfInput : List (List ℕ) → S → S → (Input → List ℕ → Type 0) → Type 0
  OfInput texts old new P = IsSomeAnd (named_input texts) (λ input. OfBytes input old new (P input))

  -- the words name a file, it was read, and P holds of its bytes
  abbrev pub OfFile : List (List ℕ) → S → S → (List ℕ → Type 0) → Type 0
  OfFile texts old new P = OfName texts (λ name. OfNamed opens reads left files name old new P)
