use Rattle.std.proofs.Common.{take}
use Rattle.std.specs.Prelude.{All}
use Rattle.basic_solver.specs.Flags.{IsSet}
use Rattle.basic_solver.proofs.grounding.are_done.Given as goal

abbrev pub invariant-loop-i : goal.invariant-loop-i
invariant-loop-i l = All (IsSet l.names l.done) (take l.i l.xs)
