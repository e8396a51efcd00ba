use Rattle.std.proofs.Common.{length}
use Rattle.solver_cli.proofs.WritingSteps.{Written}
use Rattle.solver_cli.proofs.writing.write_whole.Given as goal

abbrev pub invariant-loop-rest : goal.invariant-loop-rest
invariant-loop-rest g l = Written g.O.Sink.writes g.O.Sink.taken g.O.Sink.faults l.fn.out l.out l.text l.rest

abbrev pub decreases-loop-rest : goal.decreases-loop-rest
decreases-loop-rest g l = length l.rest
