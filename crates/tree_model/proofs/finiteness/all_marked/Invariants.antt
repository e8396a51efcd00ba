use Rattle.std.proofs.Common.{ℕ, ◌<◌, get_or}
use Rattle.tree_model.specs.Bounding.{IsMarked}
use Rattle.tree_model.proofs.finiteness.all_marked.Given as goal

abbrev pub invariant-loop-place : goal.invariant-loop-place
invariant-loop-place l = (k d : ℕ) → k < l.place-index → IsMarked l.marks (get_or l.places k d)
