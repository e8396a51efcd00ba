use Rattle.node_facts.proofs.Beside.{beside_means}
use Rattle.node_facts.proofs.Kept.{keeps_means, kept_together, keeps_shape, kept_no_other, keeps_all, keeps_none}
use Rattle.node_facts.proofs.laws.keep_laws.Goals as goal

pub returns-clause-beside : goal.returns-clause-beside
returns-clause-beside c = beside_means

pub returns-clause-means : goal.returns-clause-means
returns-clause-means c = keeps_means

pub returns-clause-together : goal.returns-clause-together
returns-clause-together c = kept_together

pub returns-clause-shape : goal.returns-clause-shape
returns-clause-shape c = keeps_shape

pub returns-clause-one : goal.returns-clause-one
returns-clause-one c = kept_no_other

pub returns-clause-all : goal.returns-clause-all
returns-clause-all c = keeps_all

pub returns-clause-none : goal.returns-clause-none
returns-clause-none c = keeps_none
