use Rattle.std.proofs.Common.{arith}
use Rattle.flat_form.specs.Numbering.{AtomOver}
use Rattle.reachability.proofs.Flags.{all_pushed}
use Rattle.reachability.proofs.tests.chain.Goals as goal

pub loop-i-preserved : goal.loop-i-preserved
loop-i-preserved c =
    all_pushed (AtomOver c.args.count) c.loop-i.atoms c.push-in-loop-i.new.self c.in_ok-link-2.field-0 c.in_ok-push-2.ensures.ok
    (c.in_ok-link-2.ensures c.args.count (omega arith) (omega arith)) c.loop-i.invariant
