use Rattle.tree_model.proofs.Marking.{marks_one, passed_open, passed_marked, walked}
use Rattle.tree_model.proofs.finiteness.mark_more.Goals.{then-not-marks-i+then-all_marked, else-not-marks-i, else-not-marks-i-via-then-not-marks-i+else-all_marked, else-not-marks-i-via-else-not-marks-i}
use Rattle.tree_model.proofs.finiteness.mark_more.Goals as goal
use Rattle.std.proofs.Common.{arith}

pub loop-i-preserved : goal.loop-i-preserved
loop-i-preserved c =
    let nodes = c.args.nodes.now in
    let i = c.loop-i.i in
    elim c.if-not-marks-i.branch [
      | then-not-marks-i+then-all_marked w ↦ rw (w.marks-is, w.more-is)
          (marks_one nodes _ _ _ i c.loop-i.invariant c.loop-i-test.true (omega arith) c.index-nodes-i.result c.index-nodes-i.is w.if-not-marks-i.true
          w.if-all_marked.ensures)
      | else-not-marks-i w ↦ rw (w.marks-is, w.more-is) (elim w.else-not-marks-i.branch [
        | else-not-marks-i-via-then-not-marks-i+else-all_marked w' ↦
            passed_open nodes _ _ _ i c.loop-i.invariant c.loop-i-test.true (omega arith) c.index-nodes-i.result c.index-nodes-i.is
            w'.if-all_marked.ensures
        | else-not-marks-i-via-else-not-marks-i w' ↦
            passed_marked nodes _ _ _ i c.loop-i.invariant c.loop-i-test.true (omega arith) w'.if-not-marks-i.false
      ])
    ]

pub returns : goal.returns
returns c = record {
  bounded = c.loop-i.invariant.bounded;
  more = walked c.args.nodes.now c.args.marks.now c.loop-i.marks c.loop-i.more c.loop-i.i (omega arith) (omega arith) c.loop-i.invariant;
}
