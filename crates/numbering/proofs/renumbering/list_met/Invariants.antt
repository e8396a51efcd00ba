use Rattle.std.proofs.Common.{length, ◌+◌}
use Rattle.numbering.specs.Listing.{IsListedTo}
use Rattle.numbering.proofs.renumbering.list_met.Given as goal

abbrev pub invariant-loop-i : goal.invariant-loop-i
invariant-loop-i l = IsListedTo l.first (length l.numbers) l.order (l.first + l.i) l.atoms l.list
