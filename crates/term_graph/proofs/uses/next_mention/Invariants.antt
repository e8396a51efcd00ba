use Rattle.std.proofs.Common.{◌≡◌, length}
use Rattle.term_graph.specs.Fields.{behind, mentions_of}
use Rattle.term_graph.specs.Walks.{IsOn, uses_left}
use Rattle.term_graph.proofs.uses.next_mention.Given as goal

abbrev pub invariant-walk : goal.invariant-walk
invariant-walk l = record {
  ring : IsOn l.rings l.head l.at;
  same : uses_left (mentions_of l.cells) l.rings l.head l.from ≡ uses_left (mentions_of l.cells) l.rings l.head l.at;
}

abbrev pub decreases-walk : goal.decreases-walk
decreases-walk l = length (behind (length l.rings) l.rings l.head l.at)
