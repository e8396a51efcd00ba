use Rattle.std.proofs.Common.{arith}
use Rattle.basic_solver.proofs.Naming.{all_own}
use Rattle.basic_solver.proofs.names.apart.Goals as goal

pub returns : goal.returns
returns c = (omega arith, all_own c.loop-v.names.items c.loop-v.v (omega arith) c.loop-v.invariant.own)
