use Rattle.settled_facts.proofs.Ending.{ends_no_round, marked_leaves_firm}
use Rattle.settled_facts.proofs.Equations.{equations_there}
use Rattle.settled_facts.proofs.Solvable.{leaves_reached}
use Rattle.settled_facts.proofs.laws.walk_laws.Goals as goal

pub returns-clause-round : goal.returns-clause-round
returns-clause-round c = ends_no_round

pub returns-clause-firm : goal.returns-clause-firm
returns-clause-firm c = marked_leaves_firm

pub returns-clause-leaves : goal.returns-clause-leaves
returns-clause-leaves c = leaves_reached

pub returns-clause-equations : goal.returns-clause-equations
returns-clause-equations c = equations_there
