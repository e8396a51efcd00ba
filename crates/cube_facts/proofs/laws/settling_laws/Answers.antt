use Rattle.cube_facts.proofs.Settle.{settled_parts_fail, settled_parts_shape, something_is_left}
use Rattle.cube_facts.proofs.laws.settling_laws.Goals as goal

pub returns-clause-fails : goal.returns-clause-fails
returns-clause-fails c = settled_parts_fail

pub returns-clause-shape : goal.returns-clause-shape
returns-clause-shape c = settled_parts_shape

pub returns-clause-left : goal.returns-clause-left
returns-clause-left c = something_is_left
