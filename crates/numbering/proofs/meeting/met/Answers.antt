use Rattle.std.proofs.Common.{ℕ, ◌≡◌, ◌+◌, length, subst, arith}
use Rattle.numbering.specs.Meeting.{IsMeeting}
use Rattle.numbering.proofs.Walking.{all_met}
use Rattle.numbering.proofs.meeting.met.Goals as goal

pub returns : goal.returns
returns c =
    let first = c.args.first in
    let atoms = c.args.atoms.now in
    let order = c.visit_met.new.order in
    let size : length c.visit_first.new.seen.items ≡ c.args.count = omega (arith, c.visit_first.ensures.size, c.in_ok-seen.ensures.len) in
    all_met first c.args.count atoms c.requires.ascending order
    (subst (λ (z : ℕ). IsMeeting first z atoms order (first + length order) 0) size c.in_ok-visit_met.ensures.meeting) c.requires.over
