use Rattle.std.proofs.Common.{◌≡◌, ◌++◌, take}
use Rattle.basic_solver.proofs.solving.copy_onto.Given as goal

abbrev pub invariant-loop-i : goal.invariant-loop-i
invariant-loop-i l = l.atoms ≡ l.initial.atoms ++ take l.i l.more
