use Rattle.node_facts.proofs.Places.{places_have, changed_keeps_whole, listed_is_same_norm, listed_is_over, held_stays, held_fits}
use Rattle.node_facts.proofs.laws.place_laws.Goals as goal

pub returns-clause-have : goal.returns-clause-have
returns-clause-have c = places_have

pub returns-clause-whole : goal.returns-clause-whole
returns-clause-whole c = changed_keeps_whole

pub returns-clause-norm : goal.returns-clause-norm
returns-clause-norm c = listed_is_same_norm

pub returns-clause-stays : goal.returns-clause-stays
returns-clause-stays c = held_stays

pub returns-clause-fit : goal.returns-clause-fit
returns-clause-fit c = held_fits

pub returns-clause-over : goal.returns-clause-over
returns-clause-over c = listed_is_over
