use Rattle.std.proofs.Common.{List, ℕ, length}
use Rattle.numbering.specs.Listing.{AreNumbers, IsListedTo}
use Rattle.numbering.proofs.renumbering.list_first.Given as goal

abbrev pub invariant-loop-u : goal.invariant-loop-u
invariant-loop-u l = (order : List ℕ) → AreNumbers l.first (length l.numbers) order l.numbers → IsListedTo l.first (length l.numbers) order l.u l.atoms l.list
