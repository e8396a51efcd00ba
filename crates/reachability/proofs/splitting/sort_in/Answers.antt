use Rattle.std.proofs.lemmas.Result.{on_ok_weaker}
use Rattle.reachability.proofs.Sorting.{needed_more, determined_more, idle_more, not_set}
use Rattle.reachability.proofs.splitting.sort_in.Goals as goal

pub returns-then-marks-v : goal.returns-then-marks-v
returns-then-marks-v c =
    on_ok_weaker c.push.result
    (λ e free low are. needed_more free c.args.v c.args.marks.now c.args.lefts.now _ _ _ low are c.push.new.self e c.if-marks-v.true) c.push.ensures.ok

pub returns-then-lefts-v : goal.returns-then-lefts-v
returns-then-lefts-v c =
    on_ok_weaker c.push-then-lefts-v.result
    (λ e free low are.
    determined_more free c.args.v c.args.marks.now c.args.lefts.now _ _ _ low are c.push-then-lefts-v.new.self e (not_set c.args.marks.now c.args.v c.if-marks-v.false) c.if-lefts-v.true)
    c.push-then-lefts-v.ensures.ok

pub returns-else-lefts-v : goal.returns-else-lefts-v
returns-else-lefts-v c =
    on_ok_weaker c.push-else-lefts-v.result
    (λ e free low are.
    idle_more free c.args.v c.args.marks.now c.args.lefts.now _ _ _ low are c.push-else-lefts-v.new.self e (not_set c.args.marks.now c.args.v c.if-marks-v.false)
    (not_set c.args.lefts.now c.args.v c.if-lefts-v.false))
    c.push-else-lefts-v.ensures.ok
