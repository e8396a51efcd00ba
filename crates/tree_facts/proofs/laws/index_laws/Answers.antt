use Rattle.tree_facts.proofs.Indexes.{read_index_below, unused_index, constant_applied, constant_finite, loop_applied, loop_infinite, constants_differ}
use Rattle.tree_facts.proofs.laws.index_laws.Goals as goal

pub returns-clause-below : goal.returns-clause-below
returns-clause-below c = read_index_below

pub returns-clause-unused : goal.returns-clause-unused
returns-clause-unused c = unused_index

pub returns-clause-constant : goal.returns-clause-constant
returns-clause-constant c = constant_applied

pub returns-clause-constant_finite : goal.returns-clause-constant_finite
returns-clause-constant_finite c = constant_finite

pub returns-clause-looped : goal.returns-clause-looped
returns-clause-looped c = loop_applied

pub returns-clause-loop_infinite : goal.returns-clause-loop_infinite
returns-clause-loop_infinite c = loop_infinite

pub returns-clause-apart : goal.returns-clause-apart
returns-clause-apart c = constants_differ
