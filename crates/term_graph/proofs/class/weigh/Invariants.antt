use Rattle.std.proofs.Common.{◌≡◌, take}
use Rattle.term_graph.specs.Classes.{weighed}
use Rattle.term_graph.proofs.class.weigh.Given as goal

abbrev pub invariant-loop-i : goal.invariant-loop-i
invariant-loop-i l = l.classes.items ≡ weighed (take l.i l.roots) l.initial.classes.items
