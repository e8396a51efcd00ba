use Rattle.cube_facts.proofs.Determined.{under_is_determined, numbered_is_under, outer_is_determined}
use Rattle.cube_facts.proofs.laws.determined_laws.Goals as goal

pub returns-clause-under : goal.returns-clause-under
returns-clause-under c = under_is_determined

pub returns-clause-numbered : goal.returns-clause-numbered
returns-clause-numbered c = numbered_is_under

pub returns-clause-outer : goal.returns-clause-outer
returns-clause-outer c = outer_is_determined
