use Rattle.std.proofs.Common.{◌≡◌, length, ap, arith}
use Rattle.cube_reduction.proofs.SettledParts.{all_are_settled, one_settled, one_dropped, none_empty_more, some_said, none_said}
use Rattle.cube_reduction.proofs.settling.settled_unless_implied.Goals as goal
use Rattle.cube_reduction.proofs.settling.settled_unless_implied.Goals.{in-Some+else-len-eq0+in_ok-push-in-Some, in-None}

pub loop-part-preserved : goal.loop-part-preserved
loop-part-preserved c =
    let m = c.args.over.now.count in
    let base = c.args.over.now.base in
    elim c.match-found.branch [
      | in-Some+else-len-eq0+in_ok-push-in-Some w ↦ record {
        settled =
            one_settled m base c.args.parts.now c.loop-part.part-index c.part-item.result c.loop-part-test.true c.part-item.is c.loop-part.all c.match-found.all w.in-Some.new
            (cc (w.all-is, w.in_ok-push-in-Some.ensures.ok)) (some_said _ _ _ _ w.in-Some.is c.in_ok-found.ensures) c.loop-part.invariant.settled;
        none_empty = none_empty_more c.loop-part.all c.match-found.all w.in-Some.new (cc (w.all-is, w.in_ok-push-in-Some.ensures.ok))
            (λ e. let none : length w.in-Some.new.basic ≡ 0 = ap length e in omega (arith, none, w.len.ensures, w.if-len-eq0.false)) c.loop-part.invariant.none_empty;
      }
      | in-None w ↦ record {
        settled =
            rw w.all-is (one_dropped m base c.args.parts.now c.loop-part.part-index c.part-item.result c.loop-part-test.true c.part-item.is c.loop-part.all
            (none_said _ _ _ w.in-None.is c.in_ok-found.ensures) c.loop-part.invariant.settled);
        none_empty = rw w.all-is c.loop-part.invariant.none_empty;
      }
    ]

pub returns : goal.returns
returns c = (
  all_are_settled c.args.over.now.count c.args.over.now.base c.args.parts.now c.loop-part.all c.loop-part.part-index c.loop-part-test.false c.loop-part.invariant.settled,
  c.loop-part.invariant.none_empty,
)
