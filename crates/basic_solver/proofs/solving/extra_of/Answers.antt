use Rattle.std.proofs.Common.{◌≡◌, ◌++◌, List, ap, ◌∙◌, subst, Option, Some, None}
use Rattle.flat_form.specs.declared.atom.Flat.{Flat}
use Rattle.basic_solver.specs.Outcomes.{IsOutcome}
use Rattle.basic_solver.proofs.Telling.{extra_some, extra_none, extra_over}
use Rattle.basic_solver.proofs.solving.extra_of.Goals as goal

pub returns-in-Some-clause-extra : goal.returns-in-Some-clause-extra
returns-in-Some-clause-extra c =
    let form = c.in_ok-form.form in
    let all : c.copy_onto.new.atoms ≡ form ++ c.args.top.now = c.in_ok-copy_onto.ensures ∙ ap (λ (z : List Flat). z ++ c.args.top.now) c.in_ok-all.ensures in
    extra_some c.args.count c.args.lower.now c.args.top.now form c.in-Some.extra c.in_ok-form.ensures
    (subst (λ (z : List Flat). IsOutcome form z (Some c.in-Some.extra)) all
    (subst (λ (z : Option (List Flat)). IsOutcome form c.copy_onto.new.atoms z) c.in-Some.is c.in_ok-extra.ensures))

pub returns-in-Some-clause-over : goal.returns-in-Some-clause-over
returns-in-Some-clause-over c =
    let form = c.in_ok-form.form in
    let all : c.copy_onto.new.atoms ≡ form ++ c.args.top.now = c.in_ok-copy_onto.ensures ∙ ap (λ (z : List Flat). z ++ c.args.top.now) c.in_ok-all.ensures in
    extra_over c.args.count c.args.lower.now c.args.top.now form c.in-Some.extra c.in_ok-form.ensures c.requires.top
    (subst (λ (z : List Flat). IsOutcome form z (Some c.in-Some.extra)) all
    (subst (λ (z : Option (List Flat)). IsOutcome form c.copy_onto.new.atoms z) c.in-Some.is c.in_ok-extra.ensures))

pub returns-in-None-clause-extra : goal.returns-in-None-clause-extra
returns-in-None-clause-extra c =
    let form = c.in_ok-form.form in
    let all : c.copy_onto.new.atoms ≡ form ++ c.args.top.now = c.in_ok-copy_onto.ensures ∙ ap (λ (z : List Flat). z ++ c.args.top.now) c.in_ok-all.ensures in
    extra_none c.args.count c.args.lower.now c.args.top.now form form c.in_ok-form.ensures
    (subst (λ (z : List Flat). IsOutcome form z None) all
    (subst (λ (z : Option (List Flat)). IsOutcome form c.copy_onto.new.atoms z) c.in-None.is c.in_ok-extra.ensures))
