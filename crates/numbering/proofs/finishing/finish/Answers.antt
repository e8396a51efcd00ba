use Rattle.std.proofs.Common.{arith}
use Rattle.flat_form.specs.declared.cube.Part.{Part}
use Rattle.reachability.proofs.Mentioned.{item_has}
use Rattle.numbering.specs.Inner.{IsReached}
use Rattle.numbering.proofs.Finished.{leads_first, leads_more, leads_on}
use Rattle.numbering.proofs.finishing.finish.Goals as goal

pub loop-part-init : goal.loop-part-init
loop-part-init c = λ reached. leads_first c.args.m c.args.parts.now c.new-done.result c.new-done.ensures

pub loop-part-preserved : goal.loop-part-preserved
loop-part-preserved c = λ reached.
    let parts = c.args.parts.now in
    let i = c.loop-part.part-index in
    let part = c.part-item.result in
    leads_more c.args.m parts i part c.in_ok-numbered.numbered c.loop-part.done c.loop-part-test.true c.part-item.is
    (c.in_ok-numbered.ensures (item_has (λ (other : Part). IsReached c.args.m other.basic) parts i part reached c.loop-part-test.true c.part-item.is))
    (c.loop-part.invariant reached) c.in_ok-push_new.ensures

pub returns : goal.returns
returns c = λ reached. leads_on c.args.m c.args.parts.now c.loop-part.part-index c.loop-part.done (omega arith) (c.loop-part.invariant reached)
