use Rattle.settled_facts.proofs.Alike.{nothing_settled, variable_keeps}
use Rattle.settled_facts.proofs.laws.variable_laws.Goals as goal

pub returns-clause-none : goal.returns-clause-none
returns-clause-none c = nothing_settled

pub returns-clause-more : goal.returns-clause-more
returns-clause-more c = variable_keeps
