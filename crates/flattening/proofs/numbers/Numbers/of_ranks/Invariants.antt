use Rattle.std.proofs.Common.{◌≡◌, ◌++◌, drop}
use Rattle.flattening.specs.Numbers.{given_ranks}
use Rattle.flattening.proofs.numbers.Numbers.of_ranks.Given as goal

abbrev pub invariant-loop-rank : goal.invariant-loop-rank
invariant-loop-rank l = l.numbers ++ given_ranks l.rank (drop l.rank l.ranks) ≡ given_ranks 0 l.ranks
