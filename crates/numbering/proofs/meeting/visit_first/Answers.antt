use Rattle.std.proofs.Common.{length, arith}
use Rattle.numbering.proofs.Numbers.{number_first}
use Rattle.numbering.proofs.Walking.{walk_on}
use Rattle.numbering.proofs.meeting.visit_first.Goals as goal

pub loop-u-preserved : goal.loop-u-preserved
loop-u-preserved c =
    let first = c.args.first in
    let count = length c.args.seen.now.items in
    let u = c.loop-u.u in
    record {
      size = omega (arith, c.visit.ensures.size, c.loop-u.invariant.size);
      state = c.in_ok-visit.ensures.state;
      meeting = (walk_on first count c.args.atoms.now c.requires.ascending u u c.loop-u.invariant.meeting (number_first first count c.loop-u.order u (omega arith)) (omega arith)
          c.in_ok-visit.ensures.visits).0;
    }
