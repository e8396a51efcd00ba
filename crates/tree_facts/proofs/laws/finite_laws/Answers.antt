use Rattle.tree_facts.proofs.Finite.{root_read, nothing_past, subtree_finite, own_subtree_infinite, term_finite}
use Rattle.tree_facts.proofs.laws.finite_laws.Goals as goal

pub returns-clause-root : goal.returns-clause-root
returns-clause-root c = root_read

pub returns-clause-past : goal.returns-clause-past
returns-clause-past c = nothing_past

pub returns-clause-subtree : goal.returns-clause-subtree
returns-clause-subtree c = subtree_finite

pub returns-clause-own_subtree : goal.returns-clause-own_subtree
returns-clause-own_subtree c = own_subtree_infinite

pub returns-clause-term : goal.returns-clause-term
returns-clause-term c = term_finite
