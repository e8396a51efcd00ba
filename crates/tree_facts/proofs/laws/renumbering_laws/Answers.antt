use Rattle.tree_facts.proofs.Renumbering.{renumbered_holds, renumbered_solves}
use Rattle.tree_facts.proofs.laws.renumbering_laws.Goals as goal

pub returns-clause-equation : goal.returns-clause-equation
returns-clause-equation c = renumbered_holds

pub returns-clause-system : goal.returns-clause-system
returns-clause-system c = renumbered_solves
