use Rattle.std.proofs.Common.{◌≡◌, map, take}
use Rattle.flat_form.specs.Raws.{raised}
use Rattle.normal_form.proofs.raws.Raise.arguments.Given as goal

abbrev pub invariant-loop-x : goal.invariant-loop-x
invariant-loop-x l = l.ys ≡ map (raised l.self.first l.self.by) (take l.x-index l.xs)
