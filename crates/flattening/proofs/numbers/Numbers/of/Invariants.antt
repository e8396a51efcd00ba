use Rattle.std.proofs.Common.{◌≡◌, take}
use Rattle.flattening.specs.Numbers.{number_by}
use Rattle.flattening.proofs.numbers.Numbers.of.Given as goal

abbrev pub invariant-loop-pair : goal.invariant-loop-pair
invariant-loop-pair l = l.number ≡ number_by (take l.pair-index l.self) l.variable
