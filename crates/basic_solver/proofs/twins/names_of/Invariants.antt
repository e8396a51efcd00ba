use Rattle.std.proofs.Common.{◌≡◌, map, take}
use Rattle.basic_solver.specs.Names.{name_in}
use Rattle.basic_solver.proofs.twins.names_of.Given as goal

abbrev pub invariant-loop-i : goal.invariant-loop-i
invariant-loop-i l = l.list.items ≡ map (name_in l.names) (take l.i l.xs)
