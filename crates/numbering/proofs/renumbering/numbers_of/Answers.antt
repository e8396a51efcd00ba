use Rattle.std.proofs.Common.{arith}
use Rattle.numbering.proofs.Listed.{noted_more, all_noted}
use Rattle.numbering.proofs.renumbering.numbers_of.Goals as goal

pub loop-i-preserved : goal.loop-i-preserved
loop-i-preserved c =
    noted_more c.args.first c.args.count c.args.order.now c.requires.distinct c.requires.within c.loop-i.i c.loop-i.numbers.items (omega arith) c.loop-i.invariant

pub returns : goal.returns
returns c = all_noted c.args.first c.args.count c.args.order.now c.requires.distinct c.requires.within c.loop-i.numbers.items c.loop-i.i (omega arith) c.loop-i.invariant
