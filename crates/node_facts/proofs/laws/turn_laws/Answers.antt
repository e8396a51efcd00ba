use Rattle.node_facts.proofs.Turns.{listed_agrees, turn_is_made, turn_keeps_whole}
use Rattle.node_facts.proofs.laws.turn_laws.Goals as goal

pub returns-clause-agrees : goal.returns-clause-agrees
returns-clause-agrees c = listed_agrees

pub returns-clause-made : goal.returns-clause-made
returns-clause-made c = turn_is_made

pub returns-clause-whole : goal.returns-clause-whole
returns-clause-whole c = turn_keeps_whole
