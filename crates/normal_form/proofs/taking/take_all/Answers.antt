use Rattle.std.proofs.Common.{List, [], ◌∷◌, refl, sym, subst, arith}
use Rattle.std.proofs.lemmas.List.Elements.{All-contains}
use Rattle.flat_form.specs.declared.cube.Cube.{Cube}
use Rattle.flat_form.specs.Numbering.{CubesOver, IsWellNumbered}
use Rattle.step_facts.specs.Lists.{TakesSteps}
use Rattle.list_facts.proofs.Takes.{Over}
use Rattle.normal_form.specs.Taking.{Continues}
use Rattle.normal_form.proofs.Continuing.{further, ended, over_more}
use Rattle.normal_form.proofs.Walking.{at_item, behind_last, item_in}
use Rattle.normal_form.proofs.taking.take_all.Goals as goal

pub take-requires : goal.take-requires
take-requires c =
    record {
      over = subst IsWellNumbered (sym c.in_ok-copy.ensures) (All-contains IsWellNumbered c.args.raws.now c.raw-item.result c.requires.over
          (item_in c.args.raws.now c.args.raws.now c.loop-raw.raw-index c.raw-item.result refl (omega arith) c.raw-item.is));
    }

pub loop-raw-preserved : goal.loop-raw-preserved
loop-raw-preserved c = record {
  over = λ n over.
      let at : Over n c.raw-item.result =
      All-contains (Over n) c.args.raws.now c.raw-item.result over (item_in c.args.raws.now c.args.raws.now c.loop-raw.raw-index c.raw-item.result refl (omega arith) c.raw-item.is) in
      over_more n c.raw-item.result.free c.loop-raw.out c.take.new.out at.0
      (subst (λ (z : Cube). CubesOver z.free c.loop-raw.out → CubesOver z.free c.take.new.out) c.in_ok-copy.ensures c.in_ok-take.ensures.over) (c.loop-raw.invariant.over n over);
  takes = further (λ (left : List Cube). left) c.args.raws.now (λ (out : List Cube). TakesSteps [] c.args.raws.now out) c.loop-raw.raw-index c.loop-raw.out c.take.new.out
      (c.raw-item.result ∷ []) c.raw-item.result (at_item c.args.raws.now c.args.raws.now c.loop-raw.raw-index c.raw-item.result refl (omega arith) c.raw-item.is) refl c.loop-raw.invariant.takes
      (subst (λ (z : Cube). Continues c.loop-raw.out (z ∷ []) c.take.new.out) c.in_ok-copy.ensures c.in_ok-take.ensures.takes);
}

pub returns-clause-takes : goal.returns-clause-takes
returns-clause-takes c =
    ended (λ (left : List Cube). left) c.args.raws.now (λ (out : List Cube). TakesSteps [] c.args.raws.now out) c.loop-raw.raw-index c.loop-raw.out
    (behind_last c.args.raws.now _ _ refl c.loop-raw-test.false) refl c.loop-raw.invariant.takes
