use Rattle.std.proofs.Common.{◌≡◌, ◌++◌, map, take}
use Rattle.flat_form.specs.Parts.{renumbered}
use Rattle.cube_reduction.specs.Numbers.{number_in}
use Rattle.cube_reduction.proofs.numbers.Numbers.push_all.Given as goal

abbrev pub invariant-loop-atom : goal.invariant-loop-atom
invariant-loop-atom l = l.list ≡ l.fn.list ++ map (renumbered (number_in l.self.table.items l.self.behind)) (take l.atom-index l.atoms)
