use Rattle.std.proofs.Common.{◌≡◌, length}
use Rattle.tree_model.specs.Bounding.{AreBounded}
use Rattle.tree_model.specs.Comparing.{unmarked}
use Rattle.tree_model.proofs.finiteness.is_finite.Given as goal

abbrev pub invariant-walks : goal.invariant-walks
invariant-walks l = record {
  size : length l.marks.items ≡ length l.nodes;
  bounded : AreBounded l.nodes l.marks.items;
}

abbrev pub decreases-walks : goal.decreases-walks
decreases-walks l = unmarked l.marks.items
