use Rattle.std.proofs.Common.{arith}
use Rattle.std.proofs.lemmas.Grind.{common_steps}
use Rattle.io_edge.specs.Stored.{KeepsBehind}
use Rattle.io_edge.proofs.memory_source.copy_front.Goals as goal

pub returns-clause-behind : goal.returns-clause-behind
unfolding KeepsBehind
returns-clause-behind c = grind (arith, common_steps)
