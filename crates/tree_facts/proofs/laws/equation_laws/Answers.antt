use Rattle.tree_facts.proofs.Equations.{equation_stable, equation_moves, terms_decompose, arguments_compose}
use Rattle.tree_facts.proofs.laws.equation_laws.Goals as goal

pub returns-clause-stable : goal.returns-clause-stable
returns-clause-stable c = equation_stable

pub returns-clause-own_variables : goal.returns-clause-own_variables
returns-clause-own_variables c = equation_moves

pub returns-clause-decompose : goal.returns-clause-decompose
returns-clause-decompose c = terms_decompose

pub returns-clause-compose : goal.returns-clause-compose
returns-clause-compose c = arguments_compose
