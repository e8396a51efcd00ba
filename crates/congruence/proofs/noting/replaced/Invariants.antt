use Rattle.std.proofs.Common.{◌≡◌, map, take}
use Rattle.term_graph.specs.Contents.{root}
use Rattle.congruence.specs.Merges.{redirected}
use Rattle.congruence.proofs.noting.replaced.Given as goal

abbrev pub invariant-loop-i : goal.invariant-loop-i
invariant-loop-i l = l.args ≡ map (redirected l.v l.w) (map (root l.graph.contents.bindings) (take l.i l.old))
