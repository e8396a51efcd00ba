use Rattle.std.proofs.Common.{ℕ, ◌≡◌, ◌+◌, ◌*◌, length}
use Rattle.finiteness.specs.Places.{HasTermAt}
use Rattle.finiteness.proofs.Searching.{IsSearch, count_new}
use Rattle.finiteness.proofs.search.search.Given as goal

abbrev pub invariant-loop-next : goal.invariant-loop-next
invariant-loop-next l = record {
  some : (s : ℕ) × HasTermAt l.b l.fn.start s;
  size : length l.marks.items ≡ length l.b;
  search : (s : ℕ) → HasTermAt l.b l.fn.start s → IsSearch l.b s l.marks.items l.walk.items l.top;
}

abbrev pub decreases-loop-next : goal.decreases-loop-next
decreases-loop-next l = 2 * count_new l.marks.items + length l.walk.items
