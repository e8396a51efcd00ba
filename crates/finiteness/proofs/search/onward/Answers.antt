use Rattle.std.proofs.Common.{arith}
use Rattle.finiteness.proofs.Marking.{settled_next, settled_whole}
use Rattle.finiteness.proofs.search.onward.Goals as goal

pub loop-argument-preserved : goal.loop-argument-preserved
loop-argument-preserved c =
    settled_next c.args.b.now c.args.marks.now c.args.at.place c.args.at.argument c.loop-argument.argument c.get.result.now c.in-VarTerm.field-0
    c.in-VarTerm.field-1 c.in-VarTerm.xs c.get.ensures c.in-VarTerm.is c.loop-argument.invariant c.get-in-loop-argument.result.now
    c.get-in-loop-argument.ensures c.in_default-unsettled.ensures

pub returns : goal.returns
returns c =
    settled_whole c.args.b.now c.args.marks.now c.args.at.place c.args.at.argument c.loop-argument.argument c.get.result.now c.in-VarTerm.field-0
    c.in-VarTerm.field-1 c.in-VarTerm.xs c.get.ensures c.in-VarTerm.is c.loop-argument.invariant (omega arith)
