use Rattle.std.proofs.Common.{arith}
use Rattle.finiteness.proofs.Gathering.{leaves_more, leaves_whole}
use Rattle.finiteness.proofs.leaves.gather_all.Goals as goal

pub loop-place-preserved : goal.loop-place-preserved
loop-place-preserved c =
    leaves_more c.args.b.now c.args.marks.now c.loop-place.place c.loop-place.found.items c.gather_at.new.found.items c.loop-place.invariant c.in_ok-gather_at.ensures

pub returns : goal.returns
returns c = leaves_whole c.args.b.now c.args.marks.now c.loop-place.place c.loop-place.found.items (omega arith) c.loop-place.invariant
