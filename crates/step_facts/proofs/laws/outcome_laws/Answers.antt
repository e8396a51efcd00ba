use Rattle.step_facts.proofs.OutcomeMeans.{outcome_means}
use Rattle.step_facts.proofs.NoneExactly.{none_exactly}
use Rattle.step_facts.proofs.ReducedOutcomes.{outcome_is_over, outcome_is_solved, outcome_is_numbered, outcome_is_distinct, outcome_parts_are_reduced, outcome_is_reduced}
use Rattle.step_facts.proofs.laws.outcome_laws.Goals as goal

pub returns-clause-means : goal.returns-clause-means
returns-clause-means c = outcome_means

pub returns-clause-over : goal.returns-clause-over
returns-clause-over c = outcome_is_over

pub returns-clause-solved : goal.returns-clause-solved
returns-clause-solved c = outcome_is_solved

pub returns-clause-numbered : goal.returns-clause-numbered
returns-clause-numbered c = outcome_is_numbered

pub returns-clause-distinct : goal.returns-clause-distinct
returns-clause-distinct c = outcome_is_distinct

pub returns-clause-parts : goal.returns-clause-parts
returns-clause-parts c = outcome_parts_are_reduced

pub returns-clause-reduced : goal.returns-clause-reduced
returns-clause-reduced c = outcome_is_reduced

pub returns-clause-none : goal.returns-clause-none
returns-clause-none c = none_exactly
