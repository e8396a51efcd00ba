use Rattle.std.proofs.Common.{◌≡◌, ◌≤◌, length}
use Rattle.term_graph.specs.Fields.{cut_off}
use Rattle.term_graph.proofs.parts.cut_cells.Given as goal

abbrev pub invariant-loop-left : goal.invariant-loop-left
invariant-loop-left l = record {
  within : l.left ≤ length l.rings;
  back : cut_off l.left l.rings ≡ cut_off l.count l.initial.rings;
}

abbrev pub decreases-loop-left : goal.decreases-loop-left
decreases-loop-left l = l.left
