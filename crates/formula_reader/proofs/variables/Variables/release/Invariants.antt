use Rattle.std.proofs.Common.{◌≡◌, ◌≤◌, length, take}
use Rattle.formula_reader.proofs.variables.Variables.release.Given as goal

abbrev pub invariant-loop-self : goal.invariant-loop-self
invariant-loop-self l = record {
  names : l.self.names ≡ l.fn.self.names;
  bound : l.self.bound ≡ take (length l.self.bound) l.fn.self.bound;
  enough : l.outer ≤ length l.self.bound;
  within : length l.self.bound ≤ length l.fn.self.bound;
}

abbrev pub decreases-loop-self : goal.decreases-loop-self
decreases-loop-self l = length l.self.bound
