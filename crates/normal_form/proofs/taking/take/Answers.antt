use Rattle.std.specs.Prelude.{IfSome, Option}
use Rattle.std.proofs.Common.{subst}
use Rattle.std.proofs.lemmas.Result.{on_ok_weaker}
use Rattle.flat_form.specs.declared.cube.Cube.{Cube}
use Rattle.flat_form.specs.Steps.{Outcome}
use Rattle.list_facts.proofs.Takes.{Over}
use Rattle.normal_form.proofs.Continuing.{none_continues, some_continues, kept_all}
use Rattle.normal_form.proofs.taking.take.Goals as goal

pub returns-in-Some-clause-over : goal.returns-in-Some-clause-over
returns-in-Some-clause-over c =
    on_ok_weaker c.push_new.result (λ kept over. kept_all (Over c.args.raw.free) c.args.out.now c.push_new.new.cubes c.in-Some.cube kept
    (subst (λ (z : Option Cube). IfSome z (Over c.args.raw.free)) c.in-Some.is c.in_ok-cube.ensures.over) over) c.push_new.ensures

pub returns-in-Some-clause-takes : goal.returns-in-Some-clause-takes
returns-in-Some-clause-takes c =
    on_ok_weaker c.push_new.result (λ kept. some_continues c.args.out.now c.push_new.new.cubes c.args.raw c.in-Some.cube
    (subst (λ (z : Option Cube). Outcome c.args.raw z) c.in-Some.is c.in_ok-cube.ensures.outcome) kept) c.push_new.ensures

pub returns-in-None-clause-takes : goal.returns-in-None-clause-takes
returns-in-None-clause-takes c =
    none_continues c.args.out.now c.args.raw (subst (λ (z : Option Cube). Outcome c.args.raw z) c.in-None.is c.in_ok-cube.ensures.outcome)
