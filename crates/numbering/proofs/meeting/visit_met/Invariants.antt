use Rattle.std.proofs.Common.{◌≡◌, ◌≤◌, ◌+◌, ◌-◌, length}
use Rattle.numbering.specs.Meeting.{IsState, IsMeeting}
use Rattle.numbering.proofs.meeting.visit_met.Given as goal

abbrev pub invariant-loop-i : goal.invariant-loop-i
invariant-loop-i l = record {
  size : length l.seen.items ≡ length l.fn.seen.items;
  state : IsState l.seen.items l.order;
  within : l.i ≤ length l.order;
  meeting : IsMeeting l.first (length l.fn.seen.items) l.atoms l.order (l.first + l.i) 0;
}

abbrev pub decreases-loop-i : goal.decreases-loop-i
decreases-loop-i l = length l.seen.items - l.i
