-- A source and a sink over memory: what contracts see of them, and what each call does.
use Rattle.std.specs.Prelude.{◌≡◌, ℕ, ◌-◌, ◌==◌, min, Bool, ◌||◌, ◌&&◌, not, List, [], ◌++◌, length, take, drop, Result, Ok, Err, IfOk, is_none, unwrap_or, if◌then◌else◌, nat_lt}
use Rattle.std.specs.List.{list_any}
use Rattle.io_edge.specs.Counts.{next}
use Rattle.io_edge.specs.Edge.{bytes_named}
use Rattle.io_edge.specs.declared.failed.Failed.{Failed}

-- whether the call with this number is to fail
abbrev pub is_to_fail : List ℕ → ℕ → Bool
is_to_fail failing call = list_any (λ n. n == call) failing

pub record SourceState : Type 0 where
  pub files : List (List ℕ × List ℕ)  -- names and bytes, in the order in which they were added
  pub failing : List ℕ  -- the numbers of the calls that are to fail
  pub calls : ℕ  -- the number of the next call of `open` or `read`
  pub most : ℕ  -- how many bytes a read gives at most
  pub opened : Bool  -- whether a file is open
  pub left : List ℕ  -- what is still to be read
  pub faults : ℕ  -- how many calls failed because they were to fail

-- whether this call of `open` fails
abbrev pub open_fails : SourceState → List ℕ → Bool
open_fails s name = is_to_fail s.failing s.calls || is_none (bytes_named s.files name)

-- the source after it: after a failure no file is open and nothing is left, and a name that is not held is no fault
abbrev pub after_open : SourceState → List ℕ → SourceState
after_open s name = record s {
  calls = next s.calls;
  opened = not (open_fails s name);
  left = if open_fails s name then [] else unwrap_or (bytes_named s.files name) [];
  faults = if is_to_fail s.failing s.calls then next s.faults else s.faults;
}

-- what one call of `open` does
pub record Opens (old : SourceState) (name : List ℕ) (result : Result (Unit {0}) Failed) (new : SourceState) : Type 0 where
  pub answer : result ≡ (if open_fails old name then Err (record {}) else Ok tt)
  pub after : new ≡ after_open old name

-- whether this call of `read` fails: never while no file is open
abbrev pub read_fails : SourceState → Bool
read_fails s = s.opened && is_to_fail s.failing s.calls

-- how many bytes it gives into a buffer with this room, where it does not fail
abbrev pub read_count : SourceState → ℕ → ℕ
read_count s room = if s.opened then min s.most (min room (length s.left)) else 0

-- the source after it: a failure leaves what is left as it was
abbrev pub after_read : SourceState → ℕ → SourceState
after_read s room = record s {
  calls = next s.calls;
  left = if read_fails s then s.left else drop (read_count s room) s.left;
  faults = if read_fails s then next s.faults else s.faults;
}

-- what one call of `read` does: the buffer keeps its room, and begins with the bytes that were left
pub record Reads (old : SourceState) (room : ℕ) (result : Result ℕ Failed) (into : List ℕ) (new : SourceState) : Type 0 where
  pub answer : result ≡ (if read_fails old then Err (record {}) else Ok (read_count old room))
  pub bytes : IfOk result (λ n. take n into ≡ take n old.left)
  pub room_kept : length into ≡ room
  pub after : new ≡ after_read old room

pub record SinkState : Type 0 where
  pub taken : List ℕ  -- what it took
  pub room : ℕ  -- how many bytes it takes in all
  pub failing : List ℕ  -- the numbers of the calls that are to fail
  pub calls : ℕ  -- the number of the next call of `write`
  pub most : ℕ  -- how many bytes a write takes at most
  pub faults : ℕ  -- how many calls failed

-- how many more bytes it has room for
abbrev pub room_left : SinkState → ℕ
room_left s = s.room - length s.taken

-- whether this call of `write` fails
abbrev pub write_fails : SinkState → List ℕ → Bool
write_fails s piece = is_to_fail s.failing s.calls || (nat_lt 0 (length piece) && (room_left s == 0))

-- how many bytes it takes, where it does not fail
abbrev pub write_count : SinkState → List ℕ → ℕ
write_count s piece = min s.most (min (length piece) (room_left s))

-- the sink after it: a failure leaves what it took as it was
abbrev pub after_write : SinkState → List ℕ → SinkState
after_write s piece = record s {
  taken = if write_fails s piece then s.taken else s.taken ++ take (write_count s piece) piece;
  calls = next s.calls;
  faults = if write_fails s piece then next s.faults else s.faults;
}

-- what one call of `write` does
pub record Writes (old : SinkState) (piece : List ℕ) (result : Result ℕ Failed) (new : SinkState) : Type 0 where
  pub answer : result ≡ (if write_fails old piece then Err (record {}) else Ok (write_count old piece))
  pub after : new ≡ after_write old piece
