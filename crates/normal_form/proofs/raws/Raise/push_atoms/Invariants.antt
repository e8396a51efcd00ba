use Rattle.std.proofs.Common.{◌≡◌, ◌++◌, map, take}
use Rattle.flat_form.specs.Parts.{renumbered}
use Rattle.flat_form.specs.Raws.{raised}
use Rattle.normal_form.proofs.raws.Raise.push_atoms.Given as goal

abbrev pub invariant-loop-atom : goal.invariant-loop-atom
invariant-loop-atom l = l.list ≡ l.fn.list ++ map (renumbered (raised l.self.first l.self.by)) (take l.atom-index l.atoms)
