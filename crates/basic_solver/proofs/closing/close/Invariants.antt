use Rattle.basic_solver.specs.Names.{IsNaming, IsSound, weight}
use Rattle.basic_solver.proofs.closing.close.Given as goal

abbrev pub invariant-loop : goal.invariant-loop
invariant-loop l = record {
  naming : IsNaming l.leads l.names.items;
  sound : IsSound l.atoms l.fn.names.items → IsSound l.atoms l.names.items;
}

abbrev pub decreases-loop : goal.decreases-loop
decreases-loop l = weight l.leads l.names.items
