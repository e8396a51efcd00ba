use Rattle.std.proofs.Common.{take}
use Rattle.std.specs.Prelude.{All}
use Rattle.basic_solver.specs.Outcomes.{IsEquation}
use Rattle.basic_solver.proofs.listing.are_equations.Given as goal

abbrev pub invariant-loop-i : goal.invariant-loop-i
invariant-loop-i l = All IsEquation (take l.i l.atoms)
