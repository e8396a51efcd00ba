use Rattle.std.proofs.Common.{take}
use Rattle.std.specs.Prelude.{All}
use Rattle.basic_solver.specs.Outcomes.{IsFiniteDone}
use Rattle.basic_solver.proofs.listing.are_finite.Given as goal

abbrev pub invariant-loop-i : goal.invariant-loop-i
invariant-loop-i l = All (IsFiniteDone l.names l.done) (take l.i l.atoms)
