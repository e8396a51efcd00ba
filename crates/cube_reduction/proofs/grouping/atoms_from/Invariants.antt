use Rattle.std.proofs.Common.{◌≡◌, take}
use Rattle.std.specs.Prelude.{leb}
use Rattle.std.specs.List.{filter}
use Rattle.flat_form.specs.Solved.{variable_of}
use Rattle.cube_reduction.proofs.grouping.atoms_from.Given as goal

abbrev pub invariant-loop-atom : goal.invariant-loop-atom
invariant-loop-atom l = l.found ≡ filter (λ atom. leb l.m (variable_of atom)) (take l.atom-index l.atoms)
