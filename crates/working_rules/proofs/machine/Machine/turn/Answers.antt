use Rattle.working_rules.proofs.MachineFacts.{turn_made}
use Rattle.working_rules.proofs.Turned.{picked_ready}
use Rattle.working_rules.proofs.machine.Machine.turn.Goals as goal

pub list_at-requires-clause-ready : goal.list_at-requires-clause-ready
list_at-requires-clause-ready c =
    picked_ready c.self.inside.free c.self.inside.arena c.args.pick c.ready_place-place.result c.ready_place-place.ensures.place

pub invariant_of-self-2 : goal.invariant_of-self-2
invariant_of-self-2 c =
    (turn_made c.self.inside.free c.self.inside.turns c.in-Some.turns c.self.inside.arena c.put_list.new.self c.self.inside.store c.list_at.new.store c.args.self.now
    c.args.pick c.ready_place-place.result c.in_ok-list.list c.self.view_is c.ready_place-place.ensures.place c.self.invariant c.in_ok-list.ensures.list c.put_list.ensures
    c.in-Some.ensures.1 c.list_at.ensures.stays).keeps

pub returns-clause-turned : goal.returns-clause-turned
returns-clause-turned c =
    (turn_made c.self.inside.free c.self.inside.turns c.in-Some.turns c.self.inside.arena c.put_list.new.self c.self.inside.store c.list_at.new.store c.args.self.now
    c.args.pick c.ready_place-place.result c.in_ok-list.list c.self.view_is c.ready_place-place.ensures.place c.self.invariant c.in_ok-list.ensures.list c.put_list.ensures
    c.in-Some.ensures.1 c.list_at.ensures.stays).turned

pub returns-clause-whole : goal.returns-clause-whole
returns-clause-whole c =
    (turn_made c.self.inside.free c.self.inside.turns c.in-Some.turns c.self.inside.arena c.put_list.new.self c.self.inside.store c.list_at.new.store c.args.self.now
    c.args.pick c.ready_place-place.result c.in_ok-list.list c.self.view_is c.ready_place-place.ensures.place c.self.invariant c.in_ok-list.ensures.list c.put_list.ensures
    c.in-Some.ensures.1 c.list_at.ensures.stays).whole

pub returns-clause-norm : goal.returns-clause-norm
returns-clause-norm c =
    (turn_made c.self.inside.free c.self.inside.turns c.in-Some.turns c.self.inside.arena c.put_list.new.self c.self.inside.store c.list_at.new.store c.args.self.now
    c.args.pick c.ready_place-place.result c.in_ok-list.list c.self.view_is c.ready_place-place.ensures.place c.self.invariant c.in_ok-list.ensures.list c.put_list.ensures
    c.in-Some.ensures.1 c.list_at.ensures.stays).norm
