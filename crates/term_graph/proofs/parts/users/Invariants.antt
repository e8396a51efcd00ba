use Rattle.std.proofs.Common.{length, get_or, None}
use Rattle.term_graph.specs.Fields.{behind, mentions_of, bindings_of, chosen}
use Rattle.term_graph.proofs.Walking.{IsWalked}
use Rattle.term_graph.proofs.parts.users.Given as goal

abbrev pub invariant-walk : goal.invariant-walk
invariant-walk l = IsWalked l.parts.rings (λ c. chosen (bindings_of l.parts.slots.items) l.parts.terms.items l.class (get_or (mentions_of l.parts.cells.items) c None)) l.head l.at l.users

abbrev pub decreases-walk : goal.decreases-walk
decreases-walk l = length (behind (length l.parts.rings) l.parts.rings l.head l.at)
