use Rattle.cube_facts.proofs.RenumberedCubes.{renumbered_means}
use Rattle.cube_facts.proofs.Shape.{shape_renumbered}
use Rattle.cube_facts.proofs.laws.renumbering_laws.Goals as goal

pub returns-clause-means : goal.returns-clause-means
returns-clause-means c = renumbered_means

pub returns-clause-shape : goal.returns-clause-shape
returns-clause-shape c = shape_renumbered
