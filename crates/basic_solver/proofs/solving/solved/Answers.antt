use Rattle.std.proofs.Common.{List, subst, Option, Some}
use Rattle.flat_form.specs.declared.atom.Flat.{Flat}
use Rattle.basic_solver.specs.Outcomes.{IsOutcome}
use Rattle.basic_solver.proofs.Telling.{form_from}
use Rattle.basic_solver.proofs.solving.solved.Goals as goal

pub returns-in-Some : goal.returns-in-Some
returns-in-Some c =
    let atoms = c.args.atoms.now in
    form_from c.args.count atoms c.in-Some.form c.requires
    (subst (λ (z : List Flat). IsOutcome z atoms (Some c.in-Some.form)) c.new-none.ensures
    (subst (λ (z : Option (List Flat)). IsOutcome c.new-none.result atoms z) c.in-Some.is c.in_ok-form.ensures))
