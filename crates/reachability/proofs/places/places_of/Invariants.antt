use Rattle.std.proofs.Common.{◌≡◌, length}
use Rattle.reachability.specs.Places.{ArePlaces}
use Rattle.reachability.proofs.places.places_of.Given as goal

abbrev pub invariant-loop-i : goal.invariant-loop-i
invariant-loop-i l = record {
  size : length l.places.items ≡ l.count;
  places : ArePlaces l.i l.atoms l.places.items;
}
