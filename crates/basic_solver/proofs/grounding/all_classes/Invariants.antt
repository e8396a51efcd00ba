use Rattle.std.specs.Prelude.{All}
use Rattle.basic_solver.specs.Visits.{IsVisit}
use Rattle.basic_solver.proofs.grounding.all_classes.Given as goal

abbrev pub invariant-loop-name : goal.invariant-loop-name
invariant-loop-name l = All (IsVisit l.count l.fn.n) l.visits.items
