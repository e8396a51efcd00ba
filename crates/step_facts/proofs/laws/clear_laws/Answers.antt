use Rattle.step_facts.proofs.ClearedMeans.{cleared_means}
use Rattle.step_facts.proofs.Finished.{finished_fails}
use Rattle.step_facts.proofs.laws.clear_laws.Goals as goal

pub returns-clause-finished : goal.returns-clause-finished
returns-clause-finished c = finished_fails

pub returns-clause-means : goal.returns-clause-means
returns-clause-means c = cleared_means
