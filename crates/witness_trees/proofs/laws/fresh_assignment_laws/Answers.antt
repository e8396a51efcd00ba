use Rattle.witness_trees.proofs.OneOrder.{fresh_is_one}
use Rattle.witness_trees.proofs.EachMet.{each_is_met}
use Rattle.witness_trees.proofs.Taken.{indexes_fresh}
use Rattle.witness_trees.proofs.Table.{fresh_table}
use Rattle.witness_trees.proofs.Holds.{fresh_has_values, holds_under_fresh}
use Rattle.witness_trees.proofs.laws.fresh_assignment_laws.Goals as goal

pub returns-clause-one : goal.returns-clause-one
returns-clause-one c = fresh_is_one

pub returns-clause-met : goal.returns-clause-met
returns-clause-met c = each_is_met

pub returns-clause-indexes : goal.returns-clause-indexes
returns-clause-indexes c = indexes_fresh

pub returns-clause-table : goal.returns-clause-table
returns-clause-table c = fresh_table

pub returns-clause-values : goal.returns-clause-values
returns-clause-values c = fresh_has_values

pub returns-clause-holds : goal.returns-clause-holds
returns-clause-holds c = holds_under_fresh
