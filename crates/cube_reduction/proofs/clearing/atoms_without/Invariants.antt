use Rattle.std.proofs.Common.{take}
use Rattle.std.specs.Prelude.{Contains}
use Rattle.flat_form.specs.Solved.{variable_of}
use Rattle.cube_reduction.proofs.Taken.{IsFound}
use Rattle.cube_reduction.proofs.clearing.atoms_without.Given as goal

abbrev pub invariant-loop-atom : goal.invariant-loop-atom
invariant-loop-atom l = IsFound (λ atom. ¬ Contains l.vs (variable_of atom)) (take l.atom-index l.atoms) l.found
