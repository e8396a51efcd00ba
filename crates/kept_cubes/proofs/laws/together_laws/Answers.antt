use Rattle.kept_cubes.proofs.Together.{nothing_below, clash_nowhere, implied_nowhere, settled_can_hold}
use Rattle.kept_cubes.proofs.laws.together_laws.Goals as goal

pub returns-clause-nothing : goal.returns-clause-nothing
returns-clause-nothing c = nothing_below

pub returns-clause-clash : goal.returns-clause-clash
returns-clause-clash c = clash_nowhere

pub returns-clause-implied : goal.returns-clause-implied
returns-clause-implied c = implied_nowhere

pub returns-clause-settled : goal.returns-clause-settled
returns-clause-settled c = settled_can_hold
