use Rattle.std.specs.HashMap.{get}
use Rattle.basic_solver.specs.Twins.{is_same_key}
use Rattle.basic_solver.proofs.Twinning.{IsTwinning}
use Rattle.basic_solver.proofs.twins.twins_of.Given as goal

abbrev pub invariant-loop-i : goal.invariant-loop-i
invariant-loop-i l = IsTwinning l.names l.atoms (get is_same_key l.table) l.twins.items l.i
