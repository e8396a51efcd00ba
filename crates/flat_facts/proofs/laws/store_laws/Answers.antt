use Rattle.flat_facts.proofs.Stores.{together_solvable}
use Rattle.flat_facts.proofs.Stores.{added_means_more}
use Rattle.flat_facts.proofs.Stores.{nothing_to_store}
use Rattle.flat_facts.proofs.laws.store_laws.Goals as goal

pub returns-clause-solvable : goal.returns-clause-solvable
returns-clause-solvable c = together_solvable

pub returns-clause-means : goal.returns-clause-means
returns-clause-means c = added_means_more

pub returns-clause-nothing : goal.returns-clause-nothing
returns-clause-nothing c = nothing_to_store
