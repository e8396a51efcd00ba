use Rattle.std.proofs.Common.{take}
use Rattle.std.specs.Prelude.{All}
use Rattle.basic_solver.specs.Terms.{AgreesWithNoted}
use Rattle.basic_solver.proofs.clashing.all_agree.Given as goal

abbrev pub invariant-loop-i : goal.invariant-loop-i
invariant-loop-i l = All (AgreesWithNoted l.names l.terms l.atoms) (take l.i l.atoms)
