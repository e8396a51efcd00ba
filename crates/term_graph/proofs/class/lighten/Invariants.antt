use Rattle.std.proofs.Common.{◌≡◌, ◌≤◌, length, drop}
use Rattle.term_graph.specs.Classes.{lightened}
use Rattle.term_graph.proofs.class.lighten.Given as goal

abbrev pub invariant-loop-left : goal.invariant-loop-left
invariant-loop-left l = record {
  within : l.left ≤ length l.roots;
  back : l.classes.items ≡ lightened (drop l.left l.roots) l.initial.classes.items;
}

abbrev pub decreases-loop-left : goal.decreases-loop-left
decreases-loop-left l = l.left
