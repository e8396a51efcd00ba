use Rattle.std.proofs.Common.{List, [], subst, Option}
use Rattle.flat_form.specs.declared.atom.Flat.{Flat}
use Rattle.flat_form.specs.Steps.{Outcome}
use Rattle.basic_solver.specs.Outcomes.{IsOutcome}
use Rattle.cube_reduction.proofs.reducing.outcome_of.Goals as goal

pub returns-in-None : goal.returns-in-None
returns-in-None c =
    Outcome.unsolvable (subst (λ (z : Option (List Flat)). IsOutcome [] c.args.raw.basic z) c.in-None.is c.in_ok-form.ensures)
