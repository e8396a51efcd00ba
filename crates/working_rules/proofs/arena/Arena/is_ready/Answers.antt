use Rattle.std.proofs.Common.{sym, ◌∙◌, arith}
use Rattle.node_facts.specs.Branches.{no_branch, one_more}
use Rattle.working_rules.specs.Forests.{branch_at}
use Rattle.working_rules.proofs.Forests.{some_left}
use Rattle.working_rules.proofs.Parts.{slot_end}
use Rattle.working_rules.proofs.Readiness.{see_first, see_low, seen_waits, see_more, seen_all}
use Rattle.working_rules.proofs.arena.Arena.is_ready.Goals as goal

pub loop-part-init : goal.loop-part-init
loop-part-init c =
    let root = c.args.self.now in
    let left = some_left c.args.i (one_more root no_branch) (omega (arith, c.requires)) in
    see_first root c.args.i c.slot.result.now.end (branch_at c.args.i root) left.0 left.1
    (slot_end c.args.i (branch_at c.args.i root) c.slot.result.now c.slot.ensures)
    (sym c.is_waiting.ensures ∙ c.if-not-is_waiting.false)

pub is_waiting-requires-in-loop-part : goal.is_waiting-requires-in-loop-part
is_waiting-requires-in-loop-part c =
    see_low c.args.self.now (branch_at c.args.i c.args.self.now) c.slot.result.now.end c.loop-part.part c.loop-part.invariant c.loop-part-test.true

pub returns-then-is_waiting : goal.returns-then-is_waiting
returns-then-is_waiting c =
    sym (seen_waits c.args.self.now (branch_at c.args.i c.args.self.now) c.slot.result.now.end c.loop-part.part c.loop-part.invariant c.loop-part-test.true
    (sym c.is_waiting-in-loop-part.ensures ∙ c.if-is_waiting.true))

pub slot-requires-in-loop-part : goal.slot-requires-in-loop-part
slot-requires-in-loop-part c =
    see_low c.args.self.now (branch_at c.args.i c.args.self.now) c.slot.result.now.end c.loop-part.part c.loop-part.invariant c.loop-part-test.true

pub loop-part-preserved : goal.loop-part-preserved
loop-part-preserved c =
    let root = c.args.self.now in
    see_more root (branch_at c.args.i root) c.slot.result.now.end c.loop-part.part c.slot-in-loop-part.result.now.end c.loop-part.invariant
    c.loop-part-test.true (sym c.is_waiting-in-loop-part.ensures ∙ c.if-is_waiting.false)
    (slot_end c.loop-part.part (branch_at c.loop-part.part root) c.slot-in-loop-part.result.now c.slot-in-loop-part.ensures)

pub returns : goal.returns
returns c =
    sym (seen_all c.args.self.now (branch_at c.args.i c.args.self.now) c.slot.result.now.end c.loop-part.part c.loop-part.invariant c.loop-part-test.false)
