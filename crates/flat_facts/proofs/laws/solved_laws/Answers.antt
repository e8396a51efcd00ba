use Rattle.flat_facts.proofs.Shapes.{solved_form_solved}
use Rattle.flat_facts.proofs.OwnForm.{own_form}
use Rattle.flat_facts.proofs.Solutions.{solved_solution}
use Rattle.flat_facts.proofs.Solutions.{solved_unique}
use Rattle.flat_facts.proofs.Solutions.{solved_form_means}
use Rattle.flat_facts.proofs.laws.solved_laws.Goals as goal

pub returns-clause-shape : goal.returns-clause-shape
returns-clause-shape c = solved_form_solved

pub returns-clause-own : goal.returns-clause-own
returns-clause-own c = own_form

pub returns-clause-solution : goal.returns-clause-solution
returns-clause-solution c = solved_solution

pub returns-clause-unique : goal.returns-clause-unique
returns-clause-unique c = solved_unique

pub returns-clause-means : goal.returns-clause-means
returns-clause-means c = solved_form_means
