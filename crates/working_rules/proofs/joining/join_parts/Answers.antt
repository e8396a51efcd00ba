use Rattle.std.proofs.Common.{arith}
use Rattle.node_facts.specs.Branches.{no_branch, one_more}
use Rattle.working_rules.specs.Forests.{branch_at}
use Rattle.working_rules.proofs.Forests.{some_left}
use Rattle.working_rules.proofs.PartLists.{join_first, join_low, join_done, join_over, join_more, join_all}
use Rattle.working_rules.proofs.Parts.{slot_end}
use Rattle.working_rules.proofs.joining.join_parts.Goals as goal

pub loop-part-init : goal.loop-part-init
loop-part-init c =
    let root = c.args.arena.now in
    let left = some_left c.args.place (one_more root no_branch) (omega (arith, c.requires.within)) in
    join_first root c.args.count c.args.place c.slot.result.now.end (branch_at c.args.place root) left.0 c.args.first left.1
    (slot_end c.args.place (branch_at c.args.place root) c.slot.result.now c.slot.ensures) c.requires.ready c.requires.parts c.requires.first

pub join_part-requires-clause-within : goal.join_part-requires-clause-within
join_part-requires-clause-within c =
    join_low c.args.arena.now (branch_at c.args.place c.args.arena.now) c.args.count c.slot.result.now.end c.loop-part.part c.args.first c.loop-part.all
    c.loop-part.invariant c.loop-part-test.true

pub join_part-requires-clause-done : goal.join_part-requires-clause-done
join_part-requires-clause-done c =
    join_done c.args.arena.now (branch_at c.args.place c.args.arena.now) c.args.count c.slot.result.now.end c.loop-part.part c.args.first c.loop-part.all
    c.loop-part.invariant c.loop-part-test.true

pub join_part-requires-clause-part : goal.join_part-requires-clause-part
join_part-requires-clause-part c =
    join_over c.args.arena.now (branch_at c.args.place c.args.arena.now) c.args.count c.slot.result.now.end c.loop-part.part c.args.first c.loop-part.all
    c.loop-part.invariant c.loop-part-test.true

pub slot-requires-in-loop-part : goal.slot-requires-in-loop-part
slot-requires-in-loop-part c =
    join_low c.args.arena.now (branch_at c.args.place c.args.arena.now) c.args.count c.slot.result.now.end c.loop-part.part c.args.first c.loop-part.all
    c.loop-part.invariant c.loop-part-test.true

pub loop-part-preserved : goal.loop-part-preserved
loop-part-preserved c =
    let root = c.args.arena.now in
    let joined = c.in_ok-all.ensures.joined in
    join_more root (branch_at c.args.place root) c.args.count c.slot.result.now.end c.loop-part.part c.args.first c.loop-part.all c.loop-part.invariant
    c.loop-part-test.true c.slot-in-loop-part.result.now.end joined.0 c.in_ok-all.all
    (slot_end c.loop-part.part (branch_at c.loop-part.part root) c.slot-in-loop-part.result.now c.slot-in-loop-part.ensures) c.in_ok-all.ensures.over joined.1 joined.2

pub returns-clause-joined : goal.returns-clause-joined
returns-clause-joined c =
    join_all c.args.arena.now (branch_at c.args.place c.args.arena.now) c.args.count c.slot.result.now.end c.loop-part.part c.args.first c.loop-part.all
    c.loop-part.invariant c.loop-part-test.false
