-- Rings of cells, as the list of the next cells.
use Rattle.std.specs.Prelude.{◌≡◌, ◌≢◌, ℕ, ◌-◌, ◌<◌, List, [], ◌∷◌, ◌++◌, length, take, nat_eq, slice_index, slice_set}
use Rattle.std.specs.List.{position_or_len}

-- the cells from c on up to the stop, which is none of them
pub data Way (next : List ℕ) (stop : ℕ) : ℕ → List ℕ → Type 0 where
  there : Way next stop stop []
  on : {c : ℕ} {cells : List ℕ} → c ≢ stop → Way next stop (slice_index next c) cells → Way next stop c (c ∷ cells)

-- the ring of c is c followed by these cells
pub record IsRound (next : List ℕ) (c : ℕ) (cells : List ℕ) : Type 0 where
  pub way : Way next c (slice_index next c) cells

-- the next cells of two cells exchanged
unfoldable pub exchanged : ℕ → ℕ → List ℕ → List ℕ
exchanged a b next = slice_set (slice_set next a (slice_index next b)) b (slice_index next a)

-- a cell more, behind this one: its ring, where it is alone, is joined to the other
unfoldable pub with_cell : ℕ → List ℕ → List ℕ
with_cell after next = exchanged after (length next) (next ++ length next ∷ [])

-- without the last cell: it is cut off from the one before it
unfoldable pub without_last : List ℕ → List ℕ
without_last next = take (length next - 1) (exchanged (position_or_len (nat_eq (length next - 1)) next) (length next - 1) next)

-- each next cell is a cell
abbrev pub IsInside : List ℕ → Type 0
IsInside next = (i : ℕ) → i < length next → slice_index next i < length next

-- exchanging twice is nothing
abbrev pub ExchangesBack : Type 0
ExchangesBack = (a b : ℕ) (next : List ℕ) → a < length next → b < length next → exchanged a b (exchanged a b next) ≡ next

-- what was added last is taken away
abbrev pub TakesAway : Type 0
TakesAway = (after : ℕ) (next : List ℕ) → IsInside next → after < length next → without_last (with_cell after next) ≡ next

-- the cells of a ring are told by one of them
abbrev pub HasOneRound : Type 0
HasOneRound = (next : List ℕ) (c : ℕ) (xs ys : List ℕ) → IsRound next c xs → IsRound next c ys → xs ≡ ys
