use Rattle.numbering.specs.Listing.{AreNoted}
use Rattle.numbering.proofs.renumbering.numbers_of.Given as goal

abbrev pub invariant-loop-i : goal.invariant-loop-i
invariant-loop-i l = AreNoted l.first l.count l.order l.i l.numbers.items
