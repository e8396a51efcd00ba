use Rattle.assignment_facts.proofs.Assigned.{say_their_trees}
use Rattle.assignment_facts.proofs.laws.assignments_say_their_trees.Goals as goal

pub returns : goal.returns
returns c = say_their_trees
