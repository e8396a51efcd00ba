use Rattle.std.proofs.Common.{sym, ◌∙◌, arith}
use Rattle.working_rules.proofs.Readiness.{picked_first, picked_here, picked_more, picked_later, picked_some}
use Rattle.working_rules.proofs.arena.Arena.ready_place.Goals as goal
use Rattle.working_rules.proofs.arena.Arena.ready_place.Goals.{then-is_ready+else-left-eq0, else-is_ready}

pub loop-i-init : goal.loop-i-init
loop-i-init c = picked_first c.args.self.now c.args.pick c.requires

pub returns-then-left-eq0-clause-place : goal.returns-then-left-eq0-clause-place
returns-then-left-eq0-clause-place c =
    picked_here c.args.self.now c.args.pick c.loop-i.left c.loop-i.i c.loop-i.invariant (omega (arith, c.len-i-end.ensures, c.loop-i-test.true))
    (sym c.is_ready.ensures ∙ c.if-is_ready.true) c.if-left-eq0.true

pub loop-i-preserved : goal.loop-i-preserved
loop-i-preserved c = elim c.if-is_ready.branch [
  | then-is_ready+else-left-eq0 w ↦
      picked_more c.args.self.now c.args.pick c.loop-i.left c.if-is_ready.left c.loop-i.i c.loop-i.invariant (omega (arith, c.len-i-end.ensures, c.loop-i-test.true))
      (sym c.is_ready.ensures ∙ w.if-is_ready.true) w.if-left-eq0.false w.left-is
  | else-is_ready w ↦
      picked_later c.args.self.now c.args.pick c.loop-i.left c.if-is_ready.left c.loop-i.i c.loop-i.invariant (omega (arith, c.len-i-end.ensures, c.loop-i-test.true))
      (sym c.is_ready.ensures ∙ w.if-is_ready.false) w.left-is
]

pub unreachable-requires : goal.unreachable-requires
unreachable-requires c =
    let low = picked_some c.args.self.now c.args.pick c.loop-i.left c.loop-i.i c.loop-i.invariant in
    omega (arith, low, c.len-i-end.ensures, c.loop-i-test.false)
