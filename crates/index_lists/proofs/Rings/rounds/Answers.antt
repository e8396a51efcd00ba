use Rattle.index_lists.specs.Links.{nexts, previouses}
use Rattle.index_lists.proofs.Rounds.{round_of_each}
use Rattle.index_lists.proofs.Rings.rounds.Goals as goal

pub returns-clause-each : goal.returns-clause-each
returns-clause-each c = rw (← c.self.view_is) (round_of_each (nexts c.self.inside.cells.items) (previouses c.self.inside.cells.items) c.self.invariant)
