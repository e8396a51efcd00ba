use Rattle.std.proofs.Common.{ℕ, ◌≡◌, ◌+◌, ◌<◌, ◌++◌, ◌∷◌, [], Bool, true, false, List, length, get_or, subst, sym, ap, ◌∙◌, arith}
use Rattle.flat_form.specs.declared.cube.Cube.{Cube}
use Rattle.flat_form.specs.Numbering.{IsWellNumbered}
use Rattle.basic_solver.specs.declared.scope.Scope.{Scope}
use Rattle.basic_solver.specs.Stores.{atoms_of}
use Rattle.kept_cubes.specs.Asking.{HoldsTogether}
use Rattle.kept_cubes.proofs.Kept.{AreKept, one_stays, one_goes, all_told}
use Rattle.kept_cubes.proofs.keeping.keep.Goals as goal
use Rattle.kept_cubes.proofs.keeping.keep.Goals.{then-branch+in_ok-copy+in_ok-push, else-branch}

pub holds_together-requires-clause-over : goal.holds_together-requires-clause-over
holds_together-requires-clause-over c =
    let items = c.as_slice-cube-items.ensures in
    let here : c.loop-cube.cube-index < length c.args.cubes.now = subst (λ (z : List Cube). c.loop-cube.cube-index < length z) items c.loop-cube-test.true in
    let is : c.cube-item.result ≡ get_or c.args.cubes.now c.loop-cube.cube-index c.cube-item.result =
    subst (λ (z : List Cube). c.cube-item.result ≡ get_or z c.loop-cube.cube-index c.cube-item.result) items c.cube-item.is in
    subst (λ (z : Cube). IsWellNumbered z) (sym is) (c.requires.over c.loop-cube.cube-index c.cube-item.result here)

pub loop-cube-preserved : goal.loop-cube-preserved
loop-cube-preserved c =
    let atoms = atoms_of c.args.store.now.scopes in
    let cubes = c.args.cubes.now in
    let i = c.loop-cube.cube-index in
    let cube = c.cube-item.result in
    let items = c.as_slice-cube-items.ensures in
    let here : i < length cubes = subst (λ (z : List Cube). i < length z) items c.loop-cube-test.true in
    let is : cube ≡ get_or cubes i cube = subst (λ (z : List Cube). cube ≡ get_or z i cube) items c.cube-item.is in
    let told : HoldsTogether atoms cube c.in_ok-holds_together.field-0 =
    subst (λ (z : List Scope). HoldsTogether (atoms_of z) cube c.in_ok-holds_together.field-0) c.loop-cube.invariant.stays c.in_ok-holds_together.ensures.answer in
    record {
      stays = c.holds_together.ensures.stays ∙ c.loop-cube.invariant.stays;
      kept = elim c.if-branch.branch [
        | then-branch+in_ok-copy+in_ok-push w ↦
            let holds : c.in_ok-holds_together.field-0 ≡ true = w.if-branch.true in
            let longer : c.if-branch.kept ≡ c.loop-cube.kept ++ cube ∷ [] = cc (w.kept-is, w.in_ok-push.ensures.ok, w.in_ok-copy.ensures) in
            one_stays atoms cubes i cube here is c.loop-cube.kept c.if-branch.kept longer (subst (λ (z : Bool). HoldsTogether atoms cube z) holds told) c.loop-cube.invariant.kept
        | else-branch w ↦
            let fails : c.in_ok-holds_together.field-0 ≡ false = w.if-branch.false in
            let same : c.if-branch.kept ≡ c.loop-cube.kept = w.kept-is in
            subst (λ (z : List Cube). AreKept atoms cubes (i + 1) z) (sym same)
            (one_goes atoms cubes i cube here is c.loop-cube.kept (subst (λ (z : Bool). HoldsTogether atoms cube z) fails told) c.loop-cube.invariant.kept)
      ];
    }

pub returns-clause-kept : goal.returns-clause-kept
returns-clause-kept c =
    all_told (atoms_of c.args.store.now.scopes) c.args.cubes.now c.loop-cube.cube-index c.loop-cube.kept
    (omega (arith, c.loop-cube-test.false, ap length c.as_slice-cube-items.ensures)) c.loop-cube.invariant.kept
