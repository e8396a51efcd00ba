use Rattle.tree_facts.proofs.Existence.{has_solution}
use Rattle.tree_facts.proofs.Indexes.{solution_of_constants}
use Rattle.tree_facts.proofs.Uniqueness.{solution_unique, solution_unique_below}
use Rattle.tree_facts.proofs.laws.solution_laws.Goals as goal

pub returns-clause-solution : goal.returns-clause-solution
returns-clause-solution c = has_solution

pub returns-clause-unique : goal.returns-clause-unique
returns-clause-unique c = solution_unique

pub returns-clause-unique_below : goal.returns-clause-unique_below
returns-clause-unique_below c = solution_unique_below

pub returns-clause-of_constants : goal.returns-clause-of_constants
returns-clause-of_constants c = solution_of_constants
