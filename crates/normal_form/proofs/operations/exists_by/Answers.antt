use Rattle.std.proofs.Common.{ℕ, ◌+◌, ◌-◌, List, [], ◌∷◌, refl, sym, ap, ◌∙◌, map, drop, arith}
use Rattle.std.proofs.lemmas.List.Elements.{All-contains}
use Rattle.flat_form.specs.declared.cube.Cube.{Cube}
use Rattle.flat_form.specs.Raws.{opened}
use Rattle.step_facts.specs.Lists.{IsExists}
use Rattle.list_facts.proofs.Takes.{Over}
use Rattle.normal_form.proofs.Continuing.{further, ended, over_more}
use Rattle.normal_form.proofs.Walking.{at_item, behind_last, item_in}
use Rattle.normal_form.proofs.operations.exists_by.Goals as goal

pub loop-cube-preserved : goal.loop-cube-preserved
loop-cube-preserved c =
    let cubes = c.args.a.now in
    let cube = c.cube-item.result in
    let quantified = c.args.quantified in record {
      over = λ n over.
          let at : Over n cube = All-contains (Over n) cubes cube over (item_in _ _ c.loop-cube.cube-index _ c.as_slice-cube-items.ensures (omega arith) c.cube-item.is) in
          over_more (n - quantified) c.in_ok-raw.raw.free c.loop-cube.out c.take.new.out
          (ap (λ (z : Cube). z.free) c.in_ok-raw.ensures ∙ ap (λ (k : ℕ). k - quantified) at.0) c.in_ok-take.ensures.over (c.loop-cube.invariant.over n over);
      takes = further (λ (left : List Cube). map (opened quantified) left) cubes (λ (out : List Cube). IsExists quantified cubes out) c.loop-cube.cube-index
          c.loop-cube.out c.take.new.out (c.in_ok-raw.raw ∷ []) cube (at_item _ _ _ _ c.as_slice-cube-items.ensures (omega arith) c.cube-item.is)
          (ap (λ (z : Cube). z ∷ map (opened quantified) (drop (c.loop-cube.cube-index + 1) cubes)) (sym c.in_ok-raw.ensures))
          c.loop-cube.invariant.takes c.in_ok-take.ensures.takes;
    }

pub returns-clause-exactly : goal.returns-clause-exactly
returns-clause-exactly c =
    let cubes = c.args.a.now in
    let quantified = c.args.quantified in
    ended (λ (left : List Cube). map (opened quantified) left) cubes (λ (all : List Cube). IsExists quantified cubes all) c.loop-cube.cube-index c.loop-cube.out
    (behind_last _ _ _ c.as_slice-cube-items.ensures c.loop-cube-test.false) refl c.loop-cube.invariant.takes
