use Rattle.std.proofs.Common.{ℕ, ◌≡◌, Bool, true, false, List, subst, sym, ◌∙◌, arith}
use Rattle.basic_solver.specs.declared.scope.Scope.{Scope}
use Rattle.basic_solver.specs.Stores.{atoms_of}
use Rattle.kept_cubes.specs.Asking.{FailsSomewhere}
use Rattle.kept_cubes.proofs.Failing.{each_asked, one_more_fails, one_holds}
use Rattle.kept_cubes.proofs.asking.all_fail.Goals as goal

pub returns-then-not-branch-clause-answer : goal.returns-then-not-branch-clause-answer
returns-then-not-branch-clause-answer c =
    let is : c.in_ok-fails_somewhere.field-0 ≡ false = c.if-not-branch.true in
    let atoms = atoms_of c.args.store.now.scopes in
    one_holds c.args.m atoms c.args.parts.now c.loop-part.part-index c.part-item.result c.loop-part-test.true c.part-item.is
    (subst (λ (z : Bool). FailsSomewhere c.args.m atoms c.part-item.result.basic z) is
    (subst (λ (z : List Scope). FailsSomewhere c.args.m (atoms_of z) c.part-item.result.basic c.in_ok-fails_somewhere.field-0) c.loop-part.invariant.stays
    c.in_ok-fails_somewhere.ensures.answer))

pub loop-part-preserved : goal.loop-part-preserved
loop-part-preserved c =
    let is : c.in_ok-fails_somewhere.field-0 ≡ true = c.if-not-branch.false in
    let atoms = atoms_of c.args.store.now.scopes in
    record {
      stays = c.fails_somewhere.ensures.stays ∙ c.loop-part.invariant.stays;
      each =
          one_more_fails c.args.m atoms c.args.parts.now c.loop-part.part-index c.part-item.result c.loop-part-test.true c.part-item.is c.loop-part.invariant.each
          (subst (λ (z : Bool). FailsSomewhere c.args.m atoms c.part-item.result.basic z) is
          (subst (λ (z : List Scope). FailsSomewhere c.args.m (atoms_of z) c.part-item.result.basic c.in_ok-fails_somewhere.field-0) c.loop-part.invariant.stays
          c.in_ok-fails_somewhere.ensures.answer));
    }

pub returns-clause-answer : goal.returns-clause-answer
returns-clause-answer c =
    each_asked c.args.m (atoms_of c.args.store.now.scopes) c.args.parts.now c.loop-part.part-index c.loop-part-test.false c.loop-part.invariant.each
