use Rattle.working_rules.proofs.Turned.{turned_stays, turned_counts, turned_means}
use Rattle.working_rules.proofs.laws.turned_laws.Goals as goal

pub returns-clause-stays : goal.returns-clause-stays
returns-clause-stays c = turned_stays

pub returns-clause-counts : goal.returns-clause-counts
returns-clause-counts c = turned_counts

pub returns-clause-means : goal.returns-clause-means
returns-clause-means c = turned_means
