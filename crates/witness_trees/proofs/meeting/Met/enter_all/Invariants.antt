use Rattle.std.proofs.Common.{◌≡◌, take}
use Rattle.witness_trees.specs.Meeting.{AreEntered}
use Rattle.witness_trees.proofs.meeting.Met.enter_all.Given as goal

abbrev pub invariant-loop-v : goal.invariant-loop-v
invariant-loop-v l = record {
  count : l.self.count ≡ l.fn.self.count;
  entered : AreEntered l.fn.self.order l.self.order (take l.v-index l.vs) l.places;
}
