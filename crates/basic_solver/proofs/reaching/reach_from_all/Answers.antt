use Rattle.basic_solver.proofs.Following.{stands_at}
use Rattle.basic_solver.proofs.reaching.reach_from_all.Goals as goal

pub returns-in_err-reach_on-clause-kept : goal.returns-in_err-reach_on-clause-kept
returns-in_err-reach_on-clause-kept c = λ classes below.
    c.reach_on.ensures.kept c.args.atoms.now classes (stands_at c.args.atoms.now c.loop-i.i c.get.result.now c.get.ensures) (c.loop-i.invariant.kept classes below)

pub loop-i-preserved : goal.loop-i-preserved
loop-i-preserved c = record {
  size = c.reach_on.ensures.size;
  kept = λ classes below.
      c.reach_on.ensures.kept c.args.atoms.now classes (stands_at c.args.atoms.now c.loop-i.i c.get.result.now c.get.ensures) (c.loop-i.invariant.kept classes below);
  stack = λ given. c.in_ok-reach_on.ensures.stack (c.loop-i.invariant.stack given);
}
