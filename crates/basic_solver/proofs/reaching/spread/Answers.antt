use Rattle.std.proofs.Common.{◌<◌, ℕ, length}
use Rattle.basic_solver.proofs.Visiting.{all_popped}
use Rattle.basic_solver.proofs.reaching.spread.Goals as goal

pub loop-name-preserved : goal.loop-name-preserved
loop-name-preserved c = record {
  size = c.reach_below.ensures.size;
  kept = λ classes below. c.reach_below.ensures.kept classes (c.loop-name.invariant.kept classes below);
  stack = c.in_ok-reach_below.ensures.stack
      (all_popped (λ (name : ℕ). name < length c.args.names.now) c.loop-name.stack.items c.pop.new.self.items c.in-Some.name c.in-Some.ensures.items c.loop-name.invariant.stack);
}

pub returns-in_err-reach_below-clause-kept : goal.returns-in_err-reach_below-clause-kept
returns-in_err-reach_below-clause-kept c = λ classes below. c.reach_below.ensures.kept classes (c.loop-name.invariant.kept classes below)
