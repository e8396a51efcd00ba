use Rattle.std.proofs.Common.{List, [], ◌∷◌, ◌++◌, refl, sym, map, arith}
use Rattle.std.proofs.lemmas.List.Elements.{All-contains}
use Rattle.flat_form.specs.declared.cube.Cube.{Cube}
use Rattle.flat_form.specs.Raws.{joined}
use Rattle.cube_facts.proofs.Raws.{raws_are_well_numbered}
use Rattle.step_facts.specs.Lists.{TakesSteps}
use Rattle.list_facts.proofs.Takes.{Over}
use Rattle.normal_form.proofs.Continuing.{further}
use Rattle.normal_form.proofs.Walking.{at_item, item_in}
use Rattle.normal_form.proofs.taking.take_joined.Goals as goal

pub take_join-requires : goal.take_join-requires
take_join-requires c =
    let at : Over c.args.one.now.free c.other-item.result =
    All-contains (Over c.args.one.now.free) c.args.others.now c.other-item.result c.requires.others
    (item_in c.args.others.now c.args.others.now c.loop-other.other-index c.other-item.result refl (omega arith) c.other-item.is) in
    record {
      left = c.loop-other.invariant.stands;
      over = raws_are_well_numbered.joined c.args.one.now c.other-item.result (sym at.0) c.requires.one at.1;
    }

pub loop-other-preserved : goal.loop-other-preserved
loop-other-preserved c = record {
  stands = c.in_ok-take_join.ensures.kept c.in_ok-left.left c.args.one.now c.loop-other.invariant.stands;
  over = λ over. c.in_ok-take_join.ensures.over (c.loop-other.invariant.over over);
  takes = λ rest. further (λ (left : List Cube). map (joined c.args.one.now) left ++ rest) c.args.others.now
      (λ (out : List Cube). TakesSteps c.args.out.now (map (joined c.args.one.now) c.args.others.now ++ rest) out) c.loop-other.other-index
      c.loop-other.out c.take_join.new.out (joined c.args.one.now c.other-item.result ∷ []) c.other-item.result
      (at_item c.args.others.now c.args.others.now c.loop-other.other-index c.other-item.result refl (omega arith) c.other-item.is) refl
      (c.loop-other.invariant.takes rest) c.in_ok-take_join.ensures.takes;
}
