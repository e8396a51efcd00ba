use Rattle.std.proofs.Common.{◌≡◌, ℕ, length, subst, arith}
use Rattle.witness_trees.proofs.Used.{AreNoted, note_more, all_noted}
use Rattle.witness_trees.proofs.indexes.index_table.Goals as goal

pub loop-i-preserved : goal.loop-i-preserved
loop-i-preserved c =
    note_more c.args.count c.args.opens.now c.args.free.now c.requires.distinct c.requires.within c.loop-i.indexes.items c.loop-i.i (omega arith) c.loop-i.invariant

pub returns-clause-each : goal.returns-clause-each
returns-clause-each c =
    let opens = c.args.opens.now in
    let end : c.loop-i.i ≡ length opens = omega arith in
    all_noted c.args.count opens c.args.free.now c.requires.distinct c.requires.within c.loop-i.indexes.items c.requires.size
    (subst (λ (n : ℕ). AreNoted c.args.count opens c.args.free.now c.loop-i.indexes.items n) end c.loop-i.invariant)
