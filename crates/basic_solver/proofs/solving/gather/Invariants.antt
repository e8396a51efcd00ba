use Rattle.std.proofs.Common.{◌≡◌, take}
use Rattle.basic_solver.specs.Stores.{atoms_of}
use Rattle.basic_solver.proofs.solving.gather.Given as goal

abbrev pub invariant-loop-i : goal.invariant-loop-i
invariant-loop-i l = l.atoms ≡ atoms_of (take l.i l.scopes)
