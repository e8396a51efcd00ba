use Rattle.std.proofs.Common.{sym, ◌∙◌, arith}
use Rattle.node_facts.proofs.Counts.{ready_unless_done}
use Rattle.working_rules.proofs.Readiness.{counted_none, counted_one, counted_same, counted_all}
use Rattle.working_rules.proofs.arena.Arena.ready.Goals as goal
use Rattle.working_rules.proofs.arena.Arena.ready.Goals.{then-is_ready, else-is_ready}

pub loop-i-init : goal.loop-i-init
loop-i-init c = counted_none c.args.self.now

pub loop-i-preserved : goal.loop-i-preserved
loop-i-preserved c = elim c.if-is_ready.branch [
  | then-is_ready w ↦
      counted_one c.args.self.now c.loop-i.i c.loop-i.count c.if-is_ready.count c.loop-i.invariant (omega (arith, c.len-i-end.ensures, c.loop-i-test.true))
      (sym c.is_ready.ensures ∙ w.if-is_ready.true) w.count-is
  | else-is_ready w ↦
      counted_same c.args.self.now c.loop-i.i c.loop-i.count c.if-is_ready.count c.loop-i.invariant (omega (arith, c.len-i-end.ensures, c.loop-i-test.true))
      (sym c.is_ready.ensures ∙ w.if-is_ready.false) w.count-is
]

pub returns-clause-count : goal.returns-clause-count
returns-clause-count c =
    counted_all c.args.self.now c.loop-i.i c.loop-i.count c.loop-i.invariant (omega (arith, c.len-i-end.ensures, c.loop-i-test.false))

pub returns-clause-none : goal.returns-clause-none
returns-clause-none c =
    let same = counted_all c.args.self.now c.loop-i.i c.loop-i.count c.loop-i.invariant (omega (arith, c.len-i-end.ensures, c.loop-i-test.false)) in
    let law = ready_unless_done 0 c.args.self.now in ((λ none. law.0 (sym same ∙ none)), (λ none. same ∙ law.1 none))
