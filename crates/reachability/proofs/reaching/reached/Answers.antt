use Rattle.std.proofs.Common.{arith}
use Rattle.reachability.proofs.Flags.{reached_at_last}
use Rattle.reachability.proofs.reaching.reached.Goals as goal

pub returns : goal.returns
returns c =
    reached_at_last c.args.first c.args.count c.args.atoms.now c.in_ok-marks.marks.items c.as_mut_slice.result.now c.mark_reached.new.marks c.in_ok-marks.marks.len
    (omega arith) c.in_ok-marks.ensures.size c.in_ok-marks.ensures.marked c.as_mut_slice.ensures.value c.mark_reached.ensures.size c.mark_reached.ensures.kept c.in_ok-mark_reached.ensures.passed
