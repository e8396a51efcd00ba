use Rattle.std.proofs.Common.{arith}
use Rattle.formula_reader.proofs.Checking.{count_one, count_none, count_all}
use Rattle.formula_reader.proofs.checks.count_of.Goals as goal
use Rattle.formula_reader.proofs.checks.count_of.Goals.{then-eq, else-eq}

pub loop-place-preserved : goal.loop-place-preserved
loop-place-preserved c =
    let kind = c.args.kind in let σ = c.args.signature.now in let i = c.loop-place.place in let n = c.loop-place.count in
    let counted = c.loop-place.invariant.counted in let few = c.loop-place.invariant.few in
    elim c.if-eq.branch [
      | then-eq w ↦ record { counted = rw w.count-is (count_one kind σ i n _ counted c.entry-other.ensures w.if-eq.ensures); few = rw w.count-is (omega arith) }
      | else-eq w ↦ record { counted = rw w.count-is (count_none kind σ i n _ counted c.entry-other.ensures w.if-eq.ensures); few = rw w.count-is (omega arith) }
    ]

pub returns : goal.returns
returns c =
    count_all c.args.kind c.args.signature.now c.loop-place.place c.loop-place.count
    (rw (← c.len-place-end.ensures.len) c.loop-place-test.false) c.loop-place.invariant.counted
