use Rattle.std.proofs.Common.{◌≡◌, ◌++◌, take}
use Rattle.term_graph.specs.Fields.{heads_of, mentions, mention_next}
use Rattle.term_graph.proofs.parts.add_mentions.Given as goal

abbrev pub invariant-loop-i : goal.invariant-loop-i
invariant-loop-i l = record {
  cells : l.cells.items ≡ l.initial.cells.items ++ mentions l.term 0 (take l.i l.args);
  rings : l.rings ≡ mention_next (heads_of l.slots.items) (take l.i l.args) l.initial.rings;
}
