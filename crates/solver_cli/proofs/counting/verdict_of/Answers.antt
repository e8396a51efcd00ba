use Rattle.solver_cli.proofs.Counted.{right_verdict}
use Rattle.solver_cli.proofs.counting.verdict_of.Goals as goal

pub returns-clause-right : goal.returns-clause-right
returns-clause-right c = right_verdict c.args.file.now c.args.s.now c.in_ok-answer.answer c.said_by.result c.said_by.ensures.valid c.said_by.ensures.unsatisfiable c.in_ok-answer.ensures.always c.in_ok-answer.ensures.never
