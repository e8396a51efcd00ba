use Rattle.solver_cli.proofs.Verdicts.{no_line}
use Rattle.solver_cli.proofs.running.tell.Goals as goal

pub returns-in-Done-clause-line : goal.returns-in-Done-clause-line
returns-in-Done-clause-line g c other = no_line g.E.Sink.writes g.E.Sink.taken g.E.Sink.faults c.args.err.now
