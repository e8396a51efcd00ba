use Rattle.node_facts.proofs.Nested.{nested_mean, nested_shape, nested_is_one}
use Rattle.node_facts.proofs.laws.nested_laws.Goals as goal

pub returns-clause-means : goal.returns-clause-means
returns-clause-means c = nested_mean

pub returns-clause-shape : goal.returns-clause-shape
returns-clause-shape c = nested_shape

pub returns-clause-one : goal.returns-clause-one
returns-clause-one c = nested_is_one
