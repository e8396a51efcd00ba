use Rattle.std.proofs.Common.{◌≡◌, take, drop, ◌++◌}
use Rattle.basic_solver.specs.Names.{renamed}
use Rattle.basic_solver.proofs.names.rename.Given as goal

abbrev pub invariant-loop-i : goal.invariant-loop-i
invariant-loop-i l = l.names.items ≡ renamed l.high l.low (take l.i l.initial.names.items) ++ drop l.i l.initial.names.items
