use Rattle.std.proofs.Common.{rules, arith}
use Rattle.std.specs.Prelude.{◌<◌, length}
use Rattle.basic_solver.specs.Flags.{IsSet}
use Rattle.basic_solver.proofs.Flagging.{zero_low, set_read, number_at, number_next, numbers_taken}
use Rattle.basic_solver.proofs.grounding.are_done.Goals as goal

pub bounds-done-name : goal.bounds-done-name
bounds-done-name c =
    let names = c.args.names.now in
    let low = number_at (λ x. x < length names) c.args.xs.now c.loop-i.i c.get.result.now c.requires.within (omega arith) c.get.ensures in
    omega (arith, zero_low names c.get.result.now c.requires.names low, c.requires.size)

pub loop-i-preserved : goal.loop-i-preserved
loop-i-preserved c =
    let names = c.args.names.now in
    let low : c.get.result.now < length names = number_at (λ x. x < length names) c.args.xs.now c.loop-i.i c.get.result.now c.requires.within (omega arith) c.get.ensures in
    number_next (IsSet names c.args.done.now) c.args.xs.now c.loop-i.i c.get.result.now (omega arith) c.get.ensures c.loop-i.invariant
    (set_read names c.args.done.now c.get.result.now _ _ low (omega (arith, zero_low names c.get.result.now c.requires.names low, c.requires.size)) c.if-not-done-name.false)

pub returns : goal.returns
returns c = (λ t. numbers_taken (IsSet c.args.names.now c.args.done.now) c.args.xs.now c.loop-i.i (omega arith) c.loop-i.invariant, λ h. search rules)
