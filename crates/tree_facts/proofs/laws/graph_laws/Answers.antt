use Rattle.tree_facts.proofs.Grounded.{node_finite_where, none_finite, finite_is_grounded, no_walk_comes_round}
use Rattle.tree_facts.proofs.laws.graph_laws.Goals as goal

pub returns-clause-node : goal.returns-clause-node
returns-clause-node c = node_finite_where

pub returns-clause-none : goal.returns-clause-none
returns-clause-none c = none_finite

pub returns-clause-grounded : goal.returns-clause-grounded
returns-clause-grounded c = finite_is_grounded

pub returns-clause-no_round : goal.returns-clause-no_round
returns-clause-no_round c = no_walk_comes_round
