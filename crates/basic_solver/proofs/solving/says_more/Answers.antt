use Rattle.std.proofs.Common.{List, subst, Option, Some, None}
use Rattle.flat_form.specs.declared.atom.Flat.{Flat}
use Rattle.basic_solver.specs.Outcomes.{IsOutcome}
use Rattle.basic_solver.proofs.Telling.{more_said, more_none}
use Rattle.basic_solver.proofs.solving.says_more.Goals as goal

pub returns-in-Some : goal.returns-in-Some
returns-in-Some c =
    let form = c.in_ok-form.form in
    more_said c.args.count c.args.atoms.now form c.in-Some.extra c.args.atom.now c.is_empty.result c.in_ok-form.ensures
    (subst (λ (z : List Flat). IsOutcome form z (Some c.in-Some.extra)) c.in_ok-all.ensures
    (subst (λ (z : Option (List Flat)). IsOutcome form c.in_ok-all.all z) c.in-Some.is c.in_ok-extra.ensures))
    c.is_empty.ensures

pub returns : goal.returns
returns c =
    let form = c.in_ok-form.form in
    more_none c.args.count c.args.atoms.now form c.args.atom.now c.in_ok-form.ensures
    (subst (λ (z : List Flat). IsOutcome form z None) c.in_ok-all.ensures
    (subst (λ (z : Option (List Flat)). IsOutcome form c.in_ok-all.all z) c.in-None.is c.in_ok-extra.ensures))
