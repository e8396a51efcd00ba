use Rattle.std.proofs.Common.{arith}
use Rattle.cube_reduction.proofs.NewNumbers.{numbers_are_new}
use Rattle.cube_reduction.proofs.numbers.Numbers.new.Goals as goal

pub returns : goal.returns
returns c = numbers_are_new c.args.free c.args.scope c.args.order.now _ _ c.requires.low c.in_ok-table.ensures (omega (arith, c.in-Some.ensures))
