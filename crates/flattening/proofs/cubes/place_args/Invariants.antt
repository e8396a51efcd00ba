use Rattle.std.proofs.Common.{◌≡◌, take, map}
use Rattle.flattening.specs.Flattening.{placed}
use Rattle.flattening.proofs.cubes.place_args.Given as goal

abbrev pub invariant-loop-x : goal.invariant-loop-x
invariant-loop-x l = l.made ≡ map (placed l.args l.scope) (take l.x-index l.xs)
