use Rattle.std.proofs.Common.{◌+◌, ◌-◌, ◌*◌, drop, get_or, arith}
use Rattle.formula_reader.proofs.Checking.{value_rises, value_step}
use Rattle.formula_reader.proofs.checks.value_of.Goals as goal

pub returns-then-value-from : goal.returns-then-value-from
returns-then-value-from c =
    let digits = c.args.digits.now in
    let step = value_step c.loop-digit.value digits c.loop-digit.digit-index 0 c.loop-digit-test.true in
    let rises = value_rises (c.loop-digit.value * 10 + (get_or digits c.loop-digit.digit-index 0 - 48)) (drop (c.loop-digit.digit-index + 1) digits) in
    omega (arith, step, rises, c.loop-digit.invariant.value)
