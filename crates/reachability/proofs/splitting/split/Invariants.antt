use Rattle.reachability.specs.Splitting.{AreSorted}
use Rattle.reachability.proofs.splitting.split.Given as goal

abbrev pub invariant-loop-v : goal.invariant-loop-v
invariant-loop-v l = AreSorted l.free l.v l.marks.items l.lefts.items l.found.needed l.found.idle l.found.determined
