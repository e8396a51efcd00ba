use Rattle.std.proofs.Common.{ℕ, ◌≡◌, length, subst, arith, refl}
use Rattle.numbering.specs.Meeting.{EntersAll, none, next}
use Rattle.numbering.proofs.meeting.enter_all.Goals as goal

pub loop-x-init : goal.loop-x-init
loop-x-init c = record { size = refl; state = c.requires.state; enters = none }

pub loop-x-preserved : goal.loop-x-preserved
loop-x-preserved c = record {
  size = omega (arith, c.enter.ensures.size, c.loop-x.invariant.size);
  state = c.in_ok-enter.ensures.state;
  enters = next c.loop-x.x-index c.loop-x.order c.enter.new.order c.loop-x.invariant.enters c.loop-x-test.true c.in_ok-enter.ensures.enters;
}

pub returns-clause-enters : goal.returns-clause-enters
returns-clause-enters c =
    let end : c.loop-x.x-index ≡ length c.args.xs.now = omega arith in
    subst (λ (z : ℕ). EntersAll c.args.first c.args.xs.now c.args.order.now z c.loop-x.order) end c.loop-x.invariant.enters
