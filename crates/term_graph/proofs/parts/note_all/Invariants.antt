use Rattle.std.proofs.Common.{List, [], take, length}
use Rattle.term_graph.specs.declared.bound.Bound.{Bound}
use Rattle.term_graph.specs.Lowering.{IsKept}
use Rattle.term_graph.specs.Noting.{AreNoted, AreKeysBelow}
use Rattle.term_graph.specs.Fields.{bindings_of}
use Rattle.term_graph.proofs.parts.note_all.Given as goal

abbrev pub invariant-loop-i : goal.invariant-loop-i
invariant-loop-i l = record {
  kept : IsKept l.initial.table.entries l.initial.lowered.items l.table.entries l.lowered.items;
  noted : (b : List Bound) → AreNoted b (bindings_of l.slots.items) l.terms.items l.initial.table.entries [] → AreNoted b (bindings_of l.slots.items) l.terms.items l.table.entries (take l.i l.moved);
  keys : AreKeysBelow (length (bindings_of l.slots.items)) l.initial.table.entries → AreKeysBelow (length (bindings_of l.slots.items)) l.table.entries;
}
