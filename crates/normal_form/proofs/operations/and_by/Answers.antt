use Rattle.std.proofs.Common.{◌+◌, List, ◌++◌, refl, sym, ap, map, drop, arith}
use Rattle.std.proofs.lemmas.List.Elements.{All-contains}
use Rattle.flat_form.specs.declared.cube.Cube.{Cube}
use Rattle.flat_form.specs.Raws.{joined}
use Rattle.step_facts.specs.Lists.{IsAnd}
use Rattle.list_facts.proofs.Lists.{pairs}
use Rattle.list_facts.proofs.Takes.{Over}
use Rattle.normal_form.proofs.Continuing.{further, ended, over_more}
use Rattle.normal_form.proofs.Walking.{at_item, behind_last, item_in}
use Rattle.normal_form.proofs.operations.and_by.Goals as goal

pub loop-one-preserved : goal.loop-one-preserved
loop-one-preserved c =
    let left = c.args.a.now in
    let right = c.args.b.now in
    let one = c.one-item.result in record {
      over = λ n a b.
          let at : Over n one = All-contains (Over n) left one a (item_in _ _ c.loop-one.one-index _ c.as_slice-one-items.ensures (omega arith) c.one-item.is) in
          over_more n one.free c.loop-one.out c.take_joined.new.out at.0 c.in_ok-take_joined.ensures.over (c.loop-one.invariant.over n a b);
      takes = further (λ (cubes : List Cube). pairs cubes right) left (λ (out : List Cube). IsAnd left right out) c.loop-one.one-index
          c.loop-one.out c.take_joined.new.out (map (joined one) c.as_slice.result.now) one (at_item _ _ _ _ c.as_slice-one-items.ensures (omega arith) c.one-item.is)
          (ap (λ (z : List Cube). map (joined one) z ++ pairs (drop (c.loop-one.one-index + 1) left) right) (sym c.as_slice.ensures))
          c.loop-one.invariant.takes c.in_ok-take_joined.ensures.takes;
    }

pub returns-clause-exactly : goal.returns-clause-exactly
returns-clause-exactly c =
    let left = c.args.a.now in
    let right = c.args.b.now in
    ended (λ (cubes : List Cube). pairs cubes right) left (λ (all : List Cube). IsAnd left right all) c.loop-one.one-index c.loop-one.out
    (behind_last _ _ _ c.as_slice-one-items.ensures c.loop-one-test.false) refl c.loop-one.invariant.takes
