use Rattle.cube_facts.proofs.ReducedOver.{reduced_is_over}
use Rattle.cube_facts.proofs.Solution.{fresh_values_fail, reduced_solution, parts_over_solution, settled_solution}
use Rattle.cube_facts.proofs.laws.fresh_laws.Goals as goal

pub returns-clause-fail : goal.returns-clause-fail
returns-clause-fail c = fresh_values_fail

pub returns-clause-over : goal.returns-clause-over
returns-clause-over c = reduced_is_over

pub returns-clause-solution : goal.returns-clause-solution
returns-clause-solution c = reduced_solution

pub returns-clause-parts : goal.returns-clause-parts
returns-clause-parts c = parts_over_solution

pub returns-clause-settled : goal.returns-clause-settled
returns-clause-settled c = settled_solution
