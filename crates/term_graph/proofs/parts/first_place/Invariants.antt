use Rattle.std.proofs.Common.{◌≡◌, ◌<◌, ℕ, get_or, nat_eq, false}
use Rattle.term_graph.specs.Contents.{root}
use Rattle.term_graph.specs.Fields.{bindings_of}
use Rattle.term_graph.proofs.parts.first_place.Given as goal

abbrev pub invariant-loop-i : goal.invariant-loop-i
invariant-loop-i l = (k : ℕ) → k < l.i → nat_eq (root (bindings_of l.slots.items) (get_or l.args k 0)) l.class ≡ false
