use Rattle.std.proofs.Common.{◌≤◌, arith}
use Rattle.flat_form.specs.Solved.{variable_of}
use Rattle.finiteness.proofs.Standing.{before_more, from_more}
use Rattle.finiteness.proofs.lookup.first_from.Goals as goal

pub loop-low-preserved-then-variable-v : goal.loop-low-preserved-then-variable-v
loop-low-preserved-then-variable-v c = record {
  order = omega arith;
  within = c.loop-low.invariant.within;
  before = before_more c.args.b.now c.requires c.args.v _ c.get.result.now c.get.ensures (omega arith);
  from = c.loop-low.invariant.from;
}

pub loop-low-preserved : goal.loop-low-preserved
loop-low-preserved c =
    let above : c.args.v ≤ variable_of c.get.result.now = omega arith in
    record {
      order = omega arith;
      within = omega arith;
      before = c.loop-low.invariant.before;
      from = from_more c.args.b.now c.requires c.args.v _ c.get.result.now c.get.ensures above;
    }
