use Rattle.std.proofs.Common.{◌≡◌, map, take, slice_index}
use Rattle.numbering.proofs.renumbering.renumbered_args.Given as goal

abbrev pub invariant-loop-x : goal.invariant-loop-x
invariant-loop-x l = l.ys ≡ map (λ v. slice_index l.numbers v) (take l.x-index l.xs)
