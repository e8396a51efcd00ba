-- What a run leaves, by its status.
use Rattle.std.specs.Prelude.{◌≡◌, ◌⊎◌, ℕ, ◌+◌, ◌<◌, ◌≤◌, List, [], length, get_or, Option, Result, flat_map}
use Rattle.std.specs.Io.KnownBytes.{Appends}
use Rattle.io_edge.specs.declared.failed.Failed.{Failed}
use Rattle.command_words.specs.Words as words
use Rattle.command_words.specs.Words.{Input}
use Rattle.solver_cli.specs.Counts.{IsCountsText}
use Rattle.solver_cli.specs.Language.{File, Fault, ReadsAs, IsFirstFault, Answered}
use Rattle.solver_cli.specs.Writing.{WritesEach, IsCut}
use Rattle.solver_cli.specs.declared.status.Status.{Status}
use Rattle.solver_cli.specs.declared.status.Status.TheVariants.{Done, Refused}

-- what is written of a file: an answer of each statement, or one line that counts them
pub data Output : Type 0 where
  answers : Output
  counts : Output

-- a generated text is counted
abbrev pub output_of : Input → Output
output_of (words.file name) = answers
output_of (words.game name) = answers
output_of (words.generated questions) = counts

-- how many texts are written of the file
abbrev pub text_count : Output → File → ℕ
text_count answers file = length file.solves
text_count counts file = 1

-- the text is right at this place, counted from 0: it is an answer of the statement there, or the line of counts
abbrev pub IsRightText : Output → File → ℕ → List ℕ → Type 0
IsRightText answers file place text = Answered file (place + 1) text
IsRightText counts file place text = IsCountsText file text

-- these are the first of the right texts, in order
pub record AreFirstTexts (output : Output) (file : File) (texts : List (List ℕ)) : Type 0 where
  pub no_more : length texts ≤ text_count output file
  pub each : (i : ℕ) → i < length texts → IsRightText output file i (get_or texts i [])

-- the texts, one behind the other
abbrev pub joined : List (List ℕ) → List ℕ
joined texts = flat_map (λ text. text) texts

-- What went out of the right texts of a file.
module _ {O : Type 0} (writes : O → List ℕ → Result ℕ Failed → O → Type 0) (taken : O → Option (List ℕ)) (output : Output) (file : File) (old new : O) where
  -- the first of them went out, in order, each whole, and nothing else
  pub record WritesSome : Type 0 where
    pub texts : List (List ℕ)
    pub right : AreFirstTexts output file texts
    pub calls : WritesEach writes old texts new
    pub known : Appends (taken old) (taken new) (joined texts)

  -- all of them
  pub record WritesAll : Type 0 where
    pub some : WritesSome
    pub all : length some.texts ≡ text_count output file

  -- not all of them
  pub record WritesFewer : Type 0 where
    pub some : WritesSome
    pub fewer : length some.texts < text_count output file

-- the first of them, each whole, and then the next, which there is, went out up to some byte and not whole: the last call
-- failed
pub record WritesCut {O : Type 0} (writes : O → List ℕ → Result ℕ Failed → O → Type 0) (taken : O → Option (List ℕ)) (output : Output) (file : File) (old new : O) : Type 0 where
  pub middle : O
  pub fewer : WritesFewer writes taken output file old middle
  pub next : List ℕ
  pub right : IsRightText output file (length fewer.some.texts) next
  pub cut : IsCut writes taken middle next new

-- the bytes read as a file with P
abbrev pub OfReading : List ℕ → (File → Type 0) → Type 0
OfReading bytes P = (file : File) × ReadsAs bytes file × P file

-- the bytes have a first fault
abbrev pub HasFault : List ℕ → Type 0
HasFault bytes = (fault : Fault) × IsFirstFault bytes fault

-- bytes that read as a file give `Done`, and bytes with a first fault give `Refused`; one of the two they do
pub record Completes (bytes : List ℕ) (status : Status) : Type 0 where
  pub done : (file : File) → ReadsAs bytes file → status ≡ Done
  pub refused : (fault : Fault) → IsFirstFault bytes fault → status ≡ Refused
  pub either : ((file : File) × ReadsAs bytes file) ⊎ HasFault bytes
