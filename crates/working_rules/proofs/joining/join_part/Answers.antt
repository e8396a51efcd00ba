use Rattle.working_rules.specs.Forests.{branch_at}
use Rattle.working_rules.proofs.PartLists.{slot_list}
use Rattle.working_rules.proofs.joining.join_part.Goals as goal

pub and-requires : goal.and-requires
and-requires c = (
  c.args.count,
  c.requires.all,
  slot_list c.args.count c.args.part (branch_at c.args.part c.args.arena.now) c.slot-slot.result.now c.in-Some.list c.slot-slot.ensures c.in-Some.is c.requires.part,
)

pub returns-in_ok-and-in-Some-clause-over : goal.returns-in_ok-and-in-Some-clause-over
returns-in_ok-and-in-Some-clause-over c =
    c.in_ok-and-in-Some.ensures.over c.args.count c.requires.all
    (slot_list c.args.count c.args.part (branch_at c.args.part c.args.arena.now) c.slot-slot.result.now c.in-Some.list c.slot-slot.ensures c.in-Some.is c.requires.part)

pub returns-in_ok-and-in-None-clause-over : goal.returns-in_ok-and-in-None-clause-over
returns-in_ok-and-in-None-clause-over c = c.in_ok-and-in-None.ensures.over c.args.count c.requires.all c.in_ok-list-in-None.ensures.over
