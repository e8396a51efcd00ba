use Rattle.normal_form.proofs.NormLists.{none_over, pushed_over, made_over}
use Rattle.normal_form.proofs.tests.Reader.+normal.Goals as goal

pub loop-place-init : goal.loop-place-init
loop-place-init t c = none_over c.in-Some.m c.new-parts.result c.new-parts.ensures

pub loop-place-preserved : goal.loop-place-preserved
loop-place-preserved t c =
    pushed_over c.in-Some.m c.loop-place.parts c.push.new.self c.in_ok-normal.field-0 c.in_ok-push.ensures.ok c.loop-place.invariant c.in_ok-normal.ensures

pub returns : goal.returns
returns t c = made_over c.args.n c.in-Some.m c.number-bound.result c.in_ok-basic.basic c.loop-place.parts c.in-Some.ensures.1 c.in_ok-basic.ensures c.loop-place.invariant
