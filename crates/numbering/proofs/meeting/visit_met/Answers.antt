use Rattle.std.proofs.Common.{ℕ, ◌≡◌, ◌<◌, ◌+◌, All, length, subst, sym, arith}
use Rattle.std.proofs.lemmas.Option.{get_or_from_slice_get}
use Rattle.flat_form.specs.Orders.{new_number}
use Rattle.numbering.specs.Meeting.{IsMeeting}
use Rattle.numbering.proofs.Walking.{walk_on, number_at}
use Rattle.numbering.proofs.meeting.visit_met.Goals as goal

pub loop-i-preserved : goal.loop-i-preserved
loop-i-preserved c =
    let first = c.args.first in
    let count = length c.args.seen.now.items in
    let atoms = c.args.atoms.now in
    let i = c.loop-i.i in
    let old = c.loop-i.order in
    let u = c.get.result.now in
    let within : i < length old = omega arith in
    let low : All (λ v. v < count) old = subst (λ (z : ℕ). All (λ v. v < z) old) c.loop-i.invariant.size c.loop-i.invariant.state.low in
    let number : new_number first count old u ≡ first + i =
    number_at first count atoms c.requires.ascending old (first + i) 0 i u c.loop-i.invariant.meeting low within (sym (get_or_from_slice_get old i u u c.get.ensures)) in
    let (met, more) = walk_on first count atoms c.requires.ascending (first + i) u c.loop-i.invariant.meeting number (omega arith) c.in_ok-visit.ensures.visits in
    let same : first + i + 1 ≡ first + (i + 1) = omega arith in
    record {
      size = omega (arith, c.visit.ensures.size, c.loop-i.invariant.size);
      state = c.in_ok-visit.ensures.state;
      within = omega (arith, more);
      meeting = subst (λ (z : ℕ). IsMeeting first count atoms c.visit.new.order z 0) same met;
    }
