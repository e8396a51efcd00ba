use Rattle.std.proofs.Common.{◌≡◌, map, take}
use Rattle.cube_reduction.specs.Numbers.{number_in}
use Rattle.cube_reduction.proofs.numbers.Numbers.of_args.Given as goal

abbrev pub invariant-loop-x : goal.invariant-loop-x
invariant-loop-x l = l.ys ≡ map (number_in l.self.table.items l.self.behind) (take l.x-index l.xs)
