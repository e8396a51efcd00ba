use Rattle.std.proofs.Common.{arith}
use Rattle.cube_reduction.proofs.NewNumbers.{each_keeps}
use Rattle.cube_reduction.proofs.numbers.Numbers.keep_all.Goals as goal

pub returns : goal.returns
returns c = λ t. each_keeps c.args.self.now.table.items c.args.self.now.behind (omega (arith, c.if-self-len.false, c.len.ensures))
    (λ w below. c.loop-v.invariant w (omega (arith, below, c.loop-v-test.false, c.len-v-end.ensures)))
