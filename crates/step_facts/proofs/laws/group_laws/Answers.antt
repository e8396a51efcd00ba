use Rattle.step_facts.proofs.Grouped.{grouped_is_right, moved_is_determined}
use Rattle.step_facts.proofs.GroupedMeans.{grouped_means}
use Rattle.step_facts.proofs.laws.group_laws.Goals as goal

pub returns-clause-right : goal.returns-clause-right
returns-clause-right c = grouped_is_right

pub returns-clause-moved : goal.returns-clause-moved
returns-clause-moved c = moved_is_determined

pub returns-clause-means : goal.returns-clause-means
returns-clause-means c = grouped_means
