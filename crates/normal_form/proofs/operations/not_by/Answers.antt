use Rattle.std.specs.Prelude.{All, Contains}
use Rattle.std.proofs.Common.{ℕ, ◌≡◌, List, [], refl, sym, ◌∙◌, subst, arith}
use Rattle.std.proofs.lemmas.List.Elements.{All-contains}
use Rattle.flat_form.specs.declared.cube.Cube.{Cube}
use Rattle.flat_form.specs.Numbering.{CubesOver, IsWellNumbered}
use Rattle.flat_form.specs.Raws.{denied}
use Rattle.cube_facts.proofs.Raws.{raws_are_well_numbered}
use Rattle.step_facts.specs.Lists.{TakesSteps, DeniesEach}
use Rattle.list_facts.proofs.Takes.{Over}
use Rattle.normal_form.proofs.Walking.{at_item, behind_last, item_in}
use Rattle.normal_form.proofs.operations.not_by.Goals as goal

-- the raw cubes of the negation of a cube of the list
denied_over : (n : ℕ) (cubes raws : List Cube) (cube : Cube) → CubesOver n cubes → Contains cubes cube → raws ≡ denied cube → CubesOver n raws
denied_over n cubes raws cube over stands same =
    let at : Over n cube = All-contains (Over n) cubes cube over stands in
    subst (λ (z : List Cube). CubesOver n z) (sym same) (subst (λ (m : ℕ). CubesOver m (denied cube)) at.0 (raws_are_well_numbered.denied cube at.1))

well_numbered : (n : ℕ) (cubes : List Cube) → CubesOver n cubes → All IsWellNumbered cubes
well_numbered n cubes over = λ k d low. (over k d low).1

pub take_all-requires : goal.take_all-requires
take_all-requires c = record {
  over = well_numbered c.args.free _ (denied_over c.args.free c.args.a.now _ c.cube-item.result c.requires
      (item_in _ _ c.loop-cube.cube-index _ c.as_slice-cube-items.ensures (omega arith) c.cube-item.is) (c.as_slice.ensures ∙ c.in_ok-raws.ensures));
}

pub and_by-requires : goal.and_by-requires
and_by-requires c = (
  c.args.free,
  c.loop-cube.invariant.over,
  c.in_ok-negation.ensures.over c.args.free (denied_over c.args.free c.args.a.now _ c.cube-item.result c.requires
      (item_in _ _ c.loop-cube.cube-index _ c.as_slice-cube-items.ensures (omega arith) c.cube-item.is) (c.as_slice.ensures ∙ c.in_ok-raws.ensures)),
)

pub loop-cube-preserved : goal.loop-cube-preserved
loop-cube-preserved c =
    let at = at_item _ _ c.loop-cube.cube-index _ c.as_slice-cube-items.ensures (omega arith) c.cube-item.is in
    let raws : c.as_slice.result.now ≡ denied c.cube-item.result = c.as_slice.ensures ∙ c.in_ok-raws.ensures in
    let over = denied_over c.args.free c.args.a.now _ c.cube-item.result c.requires
    (item_in _ _ c.loop-cube.cube-index _ c.as_slice-cube-items.ensures (omega arith) c.cube-item.is) raws in
    record {
      over = c.in_ok-out-2.ensures.over c.args.free c.loop-cube.invariant.over (c.in_ok-negation.ensures.over c.args.free over);
      denies = λ out more. c.loop-cube.invariant.denies out (subst (λ (z : List Cube). DeniesEach c.loop-cube.out z out) (sym at) (
        c.in_ok-negation.negation,
        c.in_ok-out-2.out,
        subst (λ (z : List Cube). TakesSteps [] z c.in_ok-negation.negation) raws c.in_ok-negation.ensures.takes,
        c.in_ok-out-2.ensures.exactly,
        more,
      ));
    }

pub returns-clause-exactly : goal.returns-clause-exactly
returns-clause-exactly c =
    let out = c.loop-cube.out in
    c.loop-cube.invariant.denies out (subst (λ (z : List Cube). DeniesEach out z out) (sym (behind_last _ _ _ c.as_slice-cube-items.ensures c.loop-cube-test.false)) refl)
