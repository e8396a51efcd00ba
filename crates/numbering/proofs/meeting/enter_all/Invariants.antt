use Rattle.std.proofs.Common.{◌≡◌, length}
use Rattle.numbering.specs.Meeting.{IsState, EntersAll}
use Rattle.numbering.proofs.meeting.enter_all.Given as goal

abbrev pub invariant-loop-x : goal.invariant-loop-x
invariant-loop-x l = record {
  size : length l.seen.items ≡ length l.initial.seen.items;
  state : IsState l.seen.items l.order;
  enters : EntersAll l.first l.xs l.initial.order l.x-index l.order;
}
