use Rattle.std.proofs.Common.{◌≡◌, map, take}
use Rattle.term_graph.specs.Contents.{root}
use Rattle.term_graph.specs.Fields.{bindings_of}
use Rattle.term_graph.proofs.parts.roots_of.Given as goal

abbrev pub invariant-loop-i : goal.invariant-loop-i
invariant-loop-i l = l.keys.items ≡ map (root (bindings_of l.slots.items)) (take l.i l.args)
