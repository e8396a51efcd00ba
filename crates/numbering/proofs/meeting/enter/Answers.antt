use Rattle.std.proofs.Common.{List, ℕ, true, false, sym, subst, inl, inr, slice_set}
use Rattle.numbering.specs.Meeting.{IsState, Enters, known, new}
use Rattle.reachability.proofs.Flags.{flag_read}
use Rattle.numbering.proofs.Entered.{state_more}
use Rattle.numbering.proofs.meeting.enter.Goals as goal

pub returns-then-x-first-clause-enters : goal.returns-then-x-first-clause-enters
returns-then-x-first-clause-enters c = known (inl c.if-x-first.true)

pub returns-then-index-clause-enters : goal.returns-then-index-clause-enters
returns-then-index-clause-enters c =
    known (inr ((c.requires.state.seen_is c.args.x).0 (flag_read c.args.seen.now.items c.args.x c.index.result.now true c.requires.within c.index.ensures c.if-index.true)))

pub returns-clause-state : goal.returns-clause-state
returns-clause-state c =
    let seen = c.args.seen.now.items in
    let order = c.args.order.now in
    let x = c.args.x in
    subst (λ (z : List ℕ). IsState (slice_set seen x true) z) (sym c.in_ok-push.ensures.ok)
    (state_more seen order x c.requires.within c.requires.state (flag_read seen x c.index.result.now false c.requires.within c.index.ensures c.if-index.false))

pub returns-clause-enters : goal.returns-clause-enters
returns-clause-enters c =
    let seen = c.args.seen.now.items in
    let order = c.args.order.now in
    let x = c.args.x in
    subst (λ (z : List ℕ). Enters c.args.first x order z) (sym c.in_ok-push.ensures.ok)
    (new c.if-x-first.false
    (λ i. cc ((c.requires.state.seen_is x).1 i, flag_read seen x c.index.result.now false c.requires.within c.index.ensures c.if-index.false)))
