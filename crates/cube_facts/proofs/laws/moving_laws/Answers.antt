use Rattle.cube_facts.proofs.Moved.{moved_means}
use Rattle.cube_facts.proofs.laws.moving_laws.Goals as goal

pub returns : goal.returns
returns c = moved_means
