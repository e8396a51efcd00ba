use Rattle.std.specs.Prelude.{Some}
use Rattle.std.proofs.lemmas.Result.{on_ok_weaker}
use Rattle.flat_form.specs.Raws.{joined}
use Rattle.flat_form.specs.Steps.{Outcome}
use Rattle.list_facts.proofs.Takes.{Over}
use Rattle.cube_reduction.proofs.Outcomes.{is_over}
use Rattle.normal_form.proofs.Continuing.{none_continues, some_continues, kept_all}
use Rattle.normal_form.proofs.Remembered.{comes_some, comes_none}
use Rattle.normal_form.proofs.taking.take_join.Goals as goal

pub returns-in-Some-clause-over : goal.returns-in-Some-clause-over
returns-in-Some-clause-over c =
    let raw = joined c.args.one.now c.args.other.now in
    let cube = c.get.result.now in
    let outcome : Outcome raw (Some cube) =
    comes_some c.join.new.self raw cube c.in_ok-place.field-0 c.in-Some.place c.in_ok-place.ensures.outcome c.in-Some.is c.get.ensures in
    on_ok_weaker c.push_copy.result (λ kept over. kept_all (Over c.args.one.now.free) c.args.out.now c.push_copy.new.cubes cube kept
    (is_over raw c.requires.over (Some cube) outcome) over) c.push_copy.ensures

pub returns-in-Some-clause-takes : goal.returns-in-Some-clause-takes
returns-in-Some-clause-takes c =
    let raw = joined c.args.one.now c.args.other.now in
    let cube = c.get.result.now in
    let outcome : Outcome raw (Some cube) =
    comes_some c.join.new.self raw cube c.in_ok-place.field-0 c.in-Some.place c.in_ok-place.ensures.outcome c.in-Some.is c.get.ensures in
    on_ok_weaker c.push_copy.result (λ kept. some_continues c.args.out.now c.push_copy.new.cubes raw cube outcome kept) c.push_copy.ensures

pub returns-in-None-clause-takes : goal.returns-in-None-clause-takes
returns-in-None-clause-takes c =
    let raw = joined c.args.one.now c.args.other.now in
    none_continues c.args.out.now raw (comes_none c.join.new.self raw c.in_ok-place.field-0 c.in_ok-place.ensures.outcome c.in-None.is)
