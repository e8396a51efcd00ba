use Rattle.std.proofs.Common.{arith, ◌<◌, ◌≤◌}
use Rattle.congruence.specs.Turns.{weight}
use Rattle.term_graph.proofs.Growing.{grows_on, grows_none}
use Rattle.congruence.proofs.LeadingOn.{no_turn, leads_turn, refutes_turn, takes_in, takes_range, range_owned, range_turn, owners_now, turned_on, turned_off, takes_lighter, turn_lighter}
use Rattle.settled_facts.proofs.Terms.{shaped_of}
use Rattle.congruence.proofs.closing.close.Goals as goal

pub more-init : goal.more-init
more-init c = (no_turn c.args.owners.now c.args.graph.now.contents c.args.waiting.now c.args.starts.now (shaped_of c.args.graph.now.contents c.well_formed-2.ensures), c.requires.range, grows_none c.args.graph.now)

pub next-requires : goal.next-requires
next-requires c = range_owned c.more.graph.contents c.args.owners.now c.more.waiting
    (owners_now c.args.owners.now c.args.graph.now.contents c.more.graph.contents c.args.waiting.now c.more.waiting c.args.starts.now c.more.starts c.more.invariant.0 c.requires.owners) c.more.invariant.1

pub turn-requires-clause-p_in : goal.turn-requires-clause-p_in
turn-requires-clause-p_in c = (takes_in c.more.graph.contents c.args.owners.now c.more.waiting c.next.new.self c.in-Some.p c.in-Some.q (owners_now c.args.owners.now c.args.graph.now.contents c.more.graph.contents c.args.waiting.now c.more.waiting c.args.starts.now c.more.starts c.more.invariant.0 c.requires.owners) c.more.invariant.1 c.in-Some.ensures).0

pub turn-requires-clause-q_in : goal.turn-requires-clause-q_in
turn-requires-clause-q_in c = (takes_in c.more.graph.contents c.args.owners.now c.more.waiting c.next.new.self c.in-Some.p c.in-Some.q (owners_now c.args.owners.now c.args.graph.now.contents c.more.graph.contents c.args.waiting.now c.more.waiting c.args.starts.now c.more.starts c.more.invariant.0 c.requires.owners) c.more.invariant.1 c.in-Some.ensures).1

pub returns-in_err-turn-clause-grows : goal.returns-in_err-turn-clause-grows
returns-in_err-turn-clause-grows c = grows_on c.args.graph.now c.more.graph c.turn.new.graph c.more.invariant.2 c.in_err-turn.ensures.grown

pub returns-then-not-branch-clause-grows : goal.returns-then-not-branch-clause-grows
returns-then-not-branch-clause-grows c = grows_on c.args.graph.now c.more.graph c.turn.new.graph c.more.invariant.2 c.in_ok-turn.ensures.grown

pub returns-then-not-branch-clause-closed : goal.returns-then-not-branch-clause-closed
returns-then-not-branch-clause-closed c = refutes_turn c.args.owners.now c.args.graph.now.contents c.more.graph.contents c.turn.new.graph.contents c.args.waiting.now c.more.waiting c.next.new.self c.turn.new.waiting c.args.starts.now c.more.starts c.turn.new.starts c.in-Some.p c.in-Some.q c.well_formed-in-Some.ensures (takes_in c.more.graph.contents c.args.owners.now c.more.waiting c.next.new.self c.in-Some.p c.in-Some.q (owners_now c.args.owners.now c.args.graph.now.contents c.more.graph.contents c.args.waiting.now c.more.waiting c.args.starts.now c.more.starts c.more.invariant.0 c.requires.owners) c.more.invariant.1 c.in-Some.ensures).0 (takes_in c.more.graph.contents c.args.owners.now c.more.waiting c.next.new.self c.in-Some.p c.in-Some.q (owners_now c.args.owners.now c.args.graph.now.contents c.more.graph.contents c.args.waiting.now c.more.waiting c.args.starts.now c.more.starts c.more.invariant.0 c.requires.owners) c.more.invariant.1 c.in-Some.ensures).1 c.more.invariant.0 c.in-Some.ensures (turned_off c.more.graph.contents c.turn.new.graph.contents c.next.new.self c.turn.new.waiting c.more.starts c.turn.new.starts c.in-Some.p c.in-Some.q c.in_ok-turn.field-0 c.if-not-branch.true c.in_ok-turn.ensures.turned)

pub more-smaller : goal.more-smaller
more-smaller c =
    let lighter : weight c.more.graph.contents c.next.new.self < weight c.more.graph.contents c.more.waiting = takes_lighter c.more.graph.contents c.args.owners.now c.more.waiting c.next.new.self c.in-Some.p c.in-Some.q c.in-Some.ensures in
    let then : weight c.turn.new.graph.contents c.turn.new.waiting ≤ weight c.more.graph.contents c.next.new.self =
    turn_lighter c.more.graph.contents c.turn.new.graph.contents c.next.new.self c.turn.new.waiting c.more.starts c.turn.new.starts c.in-Some.p c.in-Some.q c.well_formed-in-Some.ensures (takes_in c.more.graph.contents c.args.owners.now c.more.waiting c.next.new.self c.in-Some.p c.in-Some.q (owners_now c.args.owners.now c.args.graph.now.contents c.more.graph.contents c.args.waiting.now c.more.waiting c.args.starts.now c.more.starts c.more.invariant.0 c.requires.owners) c.more.invariant.1 c.in-Some.ensures).0 (takes_in c.more.graph.contents c.args.owners.now c.more.waiting c.next.new.self c.in-Some.p c.in-Some.q (owners_now c.args.owners.now c.args.graph.now.contents c.more.graph.contents c.args.waiting.now c.more.waiting c.args.starts.now c.more.starts c.more.invariant.0 c.requires.owners) c.more.invariant.1 c.in-Some.ensures).1 (turned_on c.more.graph.contents c.turn.new.graph.contents c.next.new.self c.turn.new.waiting c.more.starts c.turn.new.starts c.in-Some.p c.in-Some.q c.in_ok-turn.field-0 c.if-not-branch.false c.in_ok-turn.ensures.turned) in
    omega (arith, lighter, then)

pub more-preserved : goal.more-preserved
more-preserved c = (
  leads_turn c.args.owners.now c.args.graph.now.contents c.more.graph.contents c.turn.new.graph.contents c.args.waiting.now c.more.waiting c.next.new.self c.turn.new.waiting c.args.starts.now c.more.starts c.turn.new.starts c.in-Some.p c.in-Some.q c.well_formed-in-Some.ensures (takes_in c.more.graph.contents c.args.owners.now c.more.waiting c.next.new.self c.in-Some.p c.in-Some.q (owners_now c.args.owners.now c.args.graph.now.contents c.more.graph.contents c.args.waiting.now c.more.waiting c.args.starts.now c.more.starts c.more.invariant.0 c.requires.owners) c.more.invariant.1 c.in-Some.ensures).0 (takes_in c.more.graph.contents c.args.owners.now c.more.waiting c.next.new.self c.in-Some.p c.in-Some.q (owners_now c.args.owners.now c.args.graph.now.contents c.more.graph.contents c.args.waiting.now c.more.waiting c.args.starts.now c.more.starts c.more.invariant.0 c.requires.owners) c.more.invariant.1 c.in-Some.ensures).1 c.more.invariant.0 c.in-Some.ensures (turned_on c.more.graph.contents c.turn.new.graph.contents c.next.new.self c.turn.new.waiting c.more.starts c.turn.new.starts c.in-Some.p c.in-Some.q c.in_ok-turn.field-0 c.if-not-branch.false c.in_ok-turn.ensures.turned),
  range_turn c.more.graph.contents c.turn.new.graph.contents c.next.new.self c.turn.new.waiting c.more.starts c.turn.new.starts c.in-Some.p c.in-Some.q c.well_formed-in-Some.ensures (turned_on c.more.graph.contents c.turn.new.graph.contents c.next.new.self c.turn.new.waiting c.more.starts c.turn.new.starts c.in-Some.p c.in-Some.q c.in_ok-turn.field-0 c.if-not-branch.false c.in_ok-turn.ensures.turned)
      (takes_range c.more.graph.contents c.args.owners.now c.more.waiting c.next.new.self c.in-Some.p c.in-Some.q c.in-Some.ensures c.more.invariant.1),
  grows_on c.args.graph.now c.more.graph c.turn.new.graph c.more.invariant.2 c.in_ok-turn.ensures.grown,
)
