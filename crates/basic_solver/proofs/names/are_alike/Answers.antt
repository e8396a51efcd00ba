use Rattle.std.proofs.Common.{arith, rules}
use Rattle.basic_solver.proofs.names.are_alike.Goals as goal

pub returns : goal.returns
returns c = (λ t k w. c.loop-i.invariant k (omega (arith, w)), λ h. search rules)
