use Rattle.io_edge.specs.Stored.{KeepsBehind}
use Rattle.io_edge.proofs.memory_source.MemorySourceSource.read.Goals as goal

pub returns-clause-behind : goal.returns-clause-behind
unfolding KeepsBehind
returns-clause-behind c = c.copy_front-count.ensures.behind
