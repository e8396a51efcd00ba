-- How texts go out by calls of `write`.
use Rattle.std.specs.Prelude.{ℕ, ◌≤◌, ◌<◌, List, [], ◌∷◌, length, take, drop, Option, Result, Ok, Err}
use Rattle.std.specs.Io.KnownBytes.{Appends}
use Rattle.io_edge.specs.declared.failed.Failed.{Failed}
use Rattle.io_edge.specs.Edge.{Rose}

-- calls that are each offered what is left of a text and take a byte of it or more, until it is taken whole
pub data WritesWhole {O : Type 0} (writes : O → List ℕ → Result ℕ Failed → O → Type 0) : O → List ℕ → O → Type 0 where
  nothing : {o : O} → WritesWhole writes o [] o
  some : {old middle new : O} {text : List ℕ} (n : ℕ) → 1 ≤ n → n ≤ length text → writes old text (Ok n) middle → WritesWhole writes middle (drop n text) new → WritesWhole writes old text new

-- the same, until a call fails: this is left of the text, and no call comes behind
pub data FailsIn {O : Type 0} (writes : O → List ℕ → Result ℕ Failed → O → Type 0) : O → List ℕ → List ℕ → O → Type 0 where
  here : {old new : O} {text : List ℕ} → 1 ≤ length text → writes old text (Err (record {})) new → FailsIn writes old text text new
  later : {old middle new : O} {text left : List ℕ} (n : ℕ) → 1 ≤ n → n ≤ length text → writes old text (Ok n) middle → FailsIn writes middle (drop n text) left new → FailsIn writes old text left new

-- texts that go out whole, one after the other
pub data WritesEach {O : Type 0} (writes : O → List ℕ → Result ℕ Failed → O → Type 0) : O → List (List ℕ) → O → Type 0 where
  none : {o : O} → WritesEach writes o [] o
  next : {old middle new : O} {text : List ℕ} {texts : List (List ℕ)} → WritesWhole writes old text middle → WritesEach writes middle texts new → WritesEach writes old (text ∷ texts) new

-- a text went out whole
pub record IsWhole {O : Type 0} (writes : O → List ℕ → Result ℕ Failed → O → Type 0) (taken : O → Option (List ℕ)) (old : O) (text : List ℕ) (new : O) : Type 0 where
  pub calls : WritesWhole writes old text new
  pub known : Appends (taken old) (taken new) text

-- a text went out up to some byte and not whole: the last call was offered the rest, and failed
pub record IsCut {O : Type 0} (writes : O → List ℕ → Result ℕ Failed → O → Type 0) (taken : O → Option (List ℕ)) (old : O) (text : List ℕ) (new : O) : Type 0 where
  pub at : ℕ
  pub proper : at < length text
  pub calls : FailsIn writes old text (drop at text) new
  pub known : Appends (taken old) (taken new) (take at text)

-- a line went out whole or, where the count of failures rose, up to some byte
pub data WritesLine {O : Type 0} (writes : O → List ℕ → Result ℕ Failed → O → Type 0) (taken : O → Option (List ℕ)) (faults : O → ℕ) (old : O) (line : List ℕ) (new : O) : Type 0 where
  whole : IsWhole writes taken old line new → WritesLine writes taken faults old line new
  cut : IsCut writes taken old line new → Rose (faults old) (faults new) → WritesLine writes taken faults old line new
