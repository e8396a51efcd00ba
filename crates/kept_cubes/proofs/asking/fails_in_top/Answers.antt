use Rattle.std.proofs.Common.{ℕ, ◌≡◌, Bool, true, false, List, subst, sym, arith}
use Rattle.flat_form.specs.declared.atom.Flat.{Flat}
use Rattle.kept_cubes.specs.Asking.{AreAsserted, IsSaidBelow}
use Rattle.kept_cubes.proofs.Failing.{clash_in_top, said_in_top}
use Rattle.kept_cubes.proofs.asking.fails_in_top.Goals as goal

pub returns-then-not-branch-clause-answer : goal.returns-then-not-branch-clause-answer
returns-then-not-branch-clause-answer c =
    let is : c.in_ok-assert_all.field-0 ≡ false = c.if-not-branch.true in
    let none = subst (λ (z : Bool). AreAsserted c.args.store.now.scopes c.args.atoms.now c.assert_all.new.store.scopes z) is c.in_ok-assert_all.ensures.answer in
    clash_in_top c.args.m c.args.store.now.scopes c.args.atoms.now c.requires.empty c.assert_all.new.store.scopes none

pub returns-clause-answer : goal.returns-clause-answer
returns-clause-answer c =
    let is : c.in_ok-assert_all.field-0 ≡ true = c.if-not-branch.false in
    let asserted = subst (λ (z : Bool). AreAsserted c.args.store.now.scopes c.args.atoms.now c.assert_all.new.store.scopes z) is c.in_ok-assert_all.ensures.answer in
    said_in_top c.args.m c.args.store.now.scopes c.args.atoms.now c.requires.empty (omega (arith, c.requires.scopes)) c.assert_all.new.store.scopes asserted c.in_ok-extra.extra
    c.in_ok-extra.ensures.extra c.is_said_below.result
    (subst (λ (z : List Flat). IsSaidBelow c.args.m z c.is_said_below.result) c.as_slice.ensures c.is_said_below.ensures)
