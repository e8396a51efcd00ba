use Rattle.node_facts.proofs.Counts.{listed_counts, ready_unless_done, ready_are_there}
use Rattle.node_facts.proofs.Unturned.{unturned_is}
use Rattle.node_facts.proofs.laws.count_laws.Goals as goal

pub returns-clause-turn : goal.returns-clause-turn
returns-clause-turn c = listed_counts

pub returns-clause-ready : goal.returns-clause-ready
returns-clause-ready c = ready_unless_done

pub returns-clause-there : goal.returns-clause-there
returns-clause-there c = ready_are_there

pub returns-clause-unturned : goal.returns-clause-unturned
returns-clause-unturned c = unturned_is
