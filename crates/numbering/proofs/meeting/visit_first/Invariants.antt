use Rattle.std.proofs.Common.{◌≡◌, length}
use Rattle.numbering.specs.Meeting.{IsState, IsMeeting}
use Rattle.numbering.proofs.meeting.visit_first.Given as goal

abbrev pub invariant-loop-u : goal.invariant-loop-u
invariant-loop-u l = record {
  size : length l.seen.items ≡ length l.initial.seen.items;
  state : IsState l.seen.items l.order;
  meeting : IsMeeting l.first (length l.initial.seen.items) l.atoms l.order l.u 0;
}
