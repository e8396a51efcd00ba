use Rattle.cube_reduction.proofs.SettledParts.{all_are_settled, one_settled, one_dropped, some_said, none_said}
use Rattle.cube_reduction.proofs.settling.all_settled.Goals as goal
use Rattle.cube_reduction.proofs.settling.all_settled.Goals.{in-Some+in_ok-push-in-Some, in-None}

pub loop-part-preserved : goal.loop-part-preserved
loop-part-preserved c =
    let m = c.args.over.now.count in
    let base = c.args.over.now.base in
    elim c.match-found.branch [
      | in-Some+in_ok-push-in-Some w ↦
          one_settled m base c.args.parts.now c.loop-part.part-index c.part-item.result c.loop-part-test.true c.part-item.is c.loop-part.all c.match-found.all w.in-Some.new
          (cc (w.all-is, w.in_ok-push-in-Some.ensures.ok)) (some_said _ _ _ _ w.in-Some.is c.in_ok-found.ensures) c.loop-part.invariant
      | in-None w ↦
          rw w.all-is (one_dropped m base c.args.parts.now c.loop-part.part-index c.part-item.result c.loop-part-test.true c.part-item.is c.loop-part.all
          (none_said _ _ _ w.in-None.is c.in_ok-found.ensures) c.loop-part.invariant)
    ]

pub returns : goal.returns
returns c = all_are_settled c.args.over.now.count c.args.over.now.base c.args.parts.now c.loop-part.all c.loop-part.part-index c.loop-part-test.false c.loop-part.invariant
