use Rattle.basic_solver.proofs.Storing.{below_push, below_with}
use Rattle.basic_solver.proofs.laws.pop_laws.Goals as goal

pub returns-clause-pushed : goal.returns-clause-pushed
returns-clause-pushed c = below_push

pub returns-clause-asserted : goal.returns-clause-asserted
returns-clause-asserted c = below_with
