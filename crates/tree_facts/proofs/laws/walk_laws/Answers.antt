use Rattle.tree_facts.proofs.Walks.{reached_inside, below_inside, round_infinite, finite_where_walks_end}
use Rattle.tree_facts.proofs.laws.walk_laws.Goals as goal

pub returns-clause-reached : goal.returns-clause-reached
returns-clause-reached c = reached_inside

pub returns-clause-below : goal.returns-clause-below
returns-clause-below c = below_inside

pub returns-clause-round : goal.returns-clause-round
returns-clause-round c = round_infinite

pub returns-clause-ends : goal.returns-clause-ends
returns-clause-ends c = finite_where_walks_end
