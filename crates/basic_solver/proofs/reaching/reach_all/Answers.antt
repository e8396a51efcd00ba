use Rattle.std.proofs.Common.{arith}
use Rattle.flat_form.specs.Classes.{Reached}
use Rattle.basic_solver.proofs.Flagging.{number_at}
use Rattle.basic_solver.proofs.reaching.reach_all.Goals as goal

pub returns-in_err-reach-clause-kept : goal.returns-in_err-reach-clause-kept
returns-in_err-reach-clause-kept c = λ atoms classes all below.
    c.reach.ensures.kept atoms classes (number_at (Reached atoms) c.args.xs.now c.loop-i.i c.get.result.now all (omega arith) c.get.ensures)
    (c.loop-i.invariant.kept atoms classes all below)

pub loop-i-preserved : goal.loop-i-preserved
loop-i-preserved c = record {
  size = c.reach.ensures.size;
  kept = λ atoms classes all below.
      c.reach.ensures.kept atoms classes (number_at (Reached atoms) c.args.xs.now c.loop-i.i c.get.result.now all (omega arith) c.get.ensures)
      (c.loop-i.invariant.kept atoms classes all below);
  stack = λ given. c.in_ok-reach.ensures.stack (c.loop-i.invariant.stack given);
  less = omega (arith, c.in_ok-reach.ensures.less, c.loop-i.invariant.less);
}
