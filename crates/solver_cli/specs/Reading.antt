-- How a file is opened and read, by calls of `open` and `read`.
use Rattle.std.specs.Prelude.{◌≡◌, ℕ, ◌+◌, ◌≤◌, ◌<◌, List, [], ◌++◌, length, take, Option, Result, Ok, Err}
use Rattle.std.specs.Io.KnownBytes.{Consumes, IsAtEnd}
use Rattle.io_edge.specs.declared.failed.Failed.{Failed}

-- room for a byte or more, and for no more bytes than are missing to `most` where these were taken
pub record IsRoom (most : ℕ) (bytes : List ℕ) (room : ℕ) : Type 0 where
  pub some : 1 ≤ room
  pub missing : length bytes + room ≤ most

-- calls of `read`, one after the other, took these bytes: each was offered such room, and took a byte or more
pub data Takes {S : Type 0} (reads : S → ℕ → Result ℕ Failed → List ℕ → S → Type 0) (most : ℕ) (old : S) : List ℕ → S → Type 0 where
  nothing : Takes reads most old [] old
  more : {middle new : S} {bytes into : List ℕ} (n : ℕ) → Takes reads most old bytes middle → IsRoom most bytes (length into) → 1 ≤ n → n ≤ length into → reads middle (length into) (Ok n) into new → Takes reads most old (bytes ++ take n into) new

-- these bytes were taken from an open file, at most so many, and where the source tells what is left they were its
-- front
pub record ReadsSome {S : Type 0} (reads : S → ℕ → Result ℕ Failed → List ℕ → S → Type 0) (left : S → Option (List ℕ)) (most : ℕ) (old : S) (bytes : List ℕ) (new : S) : Type 0 where
  pub calls : Takes reads most old bytes new
  pub within : length bytes ≤ most
  pub known : Consumes (left old) (left new) bytes

-- no more bytes may be taken, or a last call was offered room for one and found the end
pub data EndsReading {S : Type 0} (reads : S → ℕ → Result ℕ Failed → List ℕ → S → Type 0) (most : ℕ) (bytes : List ℕ) (middle new : S) : Type 0 where
  full : length bytes ≡ most → middle ≡ new → EndsReading reads most bytes middle new
  ended : {into : List ℕ} → IsRoom most bytes (length into) → reads middle (length into) (Ok 0) into new → EndsReading reads most bytes middle new

-- an open file was read to its end, or until so many bytes were taken; where the source tells what is left, fewer
-- bytes were all of it
pub record ReadsAll {S : Type 0} (reads : S → ℕ → Result ℕ Failed → List ℕ → S → Type 0) (left : S → Option (List ℕ)) (most : ℕ) (old : S) (bytes : List ℕ) (new : S) : Type 0 where
  pub middle : S
  pub taken : ReadsSome reads left most old bytes middle
  pub ends : EndsReading reads most bytes middle new
  pub known : Consumes (left old) (left new) bytes
  pub at_end : length bytes < most → IsAtEnd (left new)

-- behind calls that took these bytes a last one was offered room for one more, and failed
pub record ReadsFailing {S : Type 0} (reads : S → ℕ → Result ℕ Failed → List ℕ → S → Type 0) (left : S → Option (List ℕ)) (most : ℕ) (old : S) (bytes : List ℕ) (new : S) : Type 0 where
  pub middle : S
  pub into : List ℕ
  pub taken : ReadsSome reads left most old bytes middle
  pub room : IsRoom most bytes (length into)
  pub call : reads middle (length into) (Err (record {})) into new

-- the first call opened the file with this name, and then P holds
pub record Opens {S : Type 0} (opens : S → List ℕ → Result (Unit {0}) Failed → S → Type 0) (name : List ℕ) (old : S) (P : S → Type 0) : Type 0 where
  pub opened : S
  pub call : opens old name (Ok tt) opened
  pub rest : P opened

-- the last call failed: it was the first, the `open` of the file with this name, or a `read`
pub data FailsToRead {S : Type 0} (opens : S → List ℕ → Result (Unit {0}) Failed → S → Type 0) (reads : S → ℕ → Result ℕ Failed → List ℕ → S → Type 0) (left : S → Option (List ℕ)) (most : ℕ) (name : List ℕ) (old : S) (bytes : List ℕ) (new : S) : Type 0 where
  at_open : bytes ≡ [] → opens old name (Err (record {})) new → FailsToRead opens reads left most name old bytes new
  at_read : Opens opens name old (λ opened. ReadsFailing reads left most opened bytes new) → FailsToRead opens reads left most name old bytes new

-- no call failed: one opened the file with this name, and those behind it took these bytes, to its end or not
pub data Calls {S : Type 0} (opens : S → List ℕ → Result (Unit {0}) Failed → S → Type 0) (reads : S → ℕ → Result ℕ Failed → List ℕ → S → Type 0) (left : S → Option (List ℕ)) (most : ℕ) (name : List ℕ) (old : S) (bytes : List ℕ) (new : S) : Type 0 where
  some : Opens opens name old (λ opened. ReadsSome reads left most opened bytes new) → Calls opens reads left most name old bytes new
  all : Opens opens name old (λ opened. ReadsAll reads left most opened bytes new) → Calls opens reads left most name old bytes new
