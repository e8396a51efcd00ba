use Rattle.witness_trees.proofs.Entering.{met_most}
use Rattle.witness_trees.proofs.meeting.Met.len.Goals as goal

pub returns-clause-most : goal.returns-clause-most
returns-clause-most c = rw (← c.self.view_is) (met_most c.self.inside.order.items c.self.inside.places.items c.self.invariant)
