use Rattle.std.proofs.Common.{◌<◌, ℕ, length}
use Rattle.term_graph.specs.Contents.{Leads}
use Rattle.term_graph.specs.Fields.{bindings_of}
use Rattle.term_graph.proofs.Forests.{remaining}
use Rattle.term_graph.proofs.parts.root_of.Given as goal

abbrev pub invariant-loop-next : goal.invariant-loop-next
invariant-loop-next l = record {
  within : l.at < length l.slots.items;
  along : (r : ℕ) → Leads (bindings_of l.slots.items) l.at r → Leads (bindings_of l.slots.items) l.v r;
}

abbrev pub decreases-loop-next : goal.decreases-loop-next
decreases-loop-next l = remaining (length (bindings_of l.slots.items)) (bindings_of l.slots.items) l.at
