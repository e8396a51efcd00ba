use Rattle.step_facts.proofs.OneNumbering.{inner_numbers_are_one, outer_order_is_one}
use Rattle.step_facts.proofs.OneGrouping.{grouped_is_one}
use Rattle.step_facts.proofs.OneOutcome.{outcome_is_one}
use Rattle.step_facts.proofs.laws.unique_laws.Goals as goal

pub returns-clause-inner : goal.returns-clause-inner
returns-clause-inner c = inner_numbers_are_one

pub returns-clause-order : goal.returns-clause-order
returns-clause-order c = outer_order_is_one

pub returns-clause-grouped : goal.returns-clause-grouped
returns-clause-grouped c = grouped_is_one

pub returns-clause-outcome : goal.returns-clause-outcome
returns-clause-outcome c = outcome_is_one
