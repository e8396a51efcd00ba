use Rattle.std.proofs.Common.{◌≡◌, take}
use Rattle.std.specs.Prelude.{ltb}
use Rattle.std.specs.List.{filter}
use Rattle.flat_form.specs.Solved.{variable_of}
use Rattle.cube_reduction.proofs.grouping.atoms_below.Given as goal

abbrev pub invariant-loop-atom : goal.invariant-loop-atom
invariant-loop-atom l = l.found ≡ filter (λ atom. ltb (variable_of atom) l.m) (take l.atom-index l.atoms)
