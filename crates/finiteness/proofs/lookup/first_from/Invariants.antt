use Rattle.std.proofs.Common.{ℕ, ◌<◌, ◌≤◌, ◌-◌, length}
use Rattle.flat_form.specs.declared.atom.Flat.{Flat}
use Rattle.flat_form.specs.Solved.{variable_of}
use Rattle.finiteness.specs.Places.{StandsAt}
use Rattle.finiteness.proofs.lookup.first_from.Given as goal

abbrev pub invariant-loop-low : goal.invariant-loop-low
invariant-loop-low l = record {
  order : l.low ≤ l.high;
  within : l.high ≤ length l.b;
  before : (i : ℕ) (atom : Flat) → StandsAt l.b i atom → i < l.low → variable_of atom < l.v;
  from : (i : ℕ) (atom : Flat) → StandsAt l.b i atom → l.high ≤ i → l.v ≤ variable_of atom;
}

abbrev pub decreases-loop-low : goal.decreases-loop-low
decreases-loop-low l = l.high - l.low
