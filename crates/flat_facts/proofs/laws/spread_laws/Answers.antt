use Rattle.flat_facts.proofs.Spread.{round_is_infinite}
use Rattle.flat_facts.proofs.Spread.{least_round_one}
use Rattle.flat_facts.proofs.Spread.{finite_where_leaves}
use Rattle.flat_facts.proofs.laws.spread_laws.Goals as goal

pub returns-clause-round : goal.returns-clause-round
returns-clause-round c = round_is_infinite

pub returns-clause-least : goal.returns-clause-least
returns-clause-least c = least_round_one

pub returns-clause-leaves : goal.returns-clause-leaves
returns-clause-leaves c = finite_where_leaves
