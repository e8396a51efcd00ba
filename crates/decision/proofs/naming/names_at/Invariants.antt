use Rattle.std.proofs.Common.{◌≡◌, take}
use Rattle.decision.specs.Naming.{names_at}
use Rattle.decision.proofs.naming.names_at.Given as goal

abbrev pub invariant-loop-rank : goal.invariant-loop-rank
invariant-loop-rank l = l.found ≡ names_at l.names (take l.rank-index l.ranks)
