use Rattle.std.proofs.Common.{ap, ◌∙◌, subst, arith}
use Rattle.basic_solver.specs.declared.scope.Asserted.{Asserted}
use Rattle.basic_solver.specs.Stores.{Stored, IsAnswer}
use Rattle.kept_cubes.proofs.WithAtoms.{still_over_same, all_asserted, next_over, one_kept, one_clashes}
use Rattle.working_rules.proofs.round.assert_all.Goals as goal

pub assert-requires : goal.assert-requires
assert-requires c =
    next_over c.args.store.now.scopes c.loop-atom.store.scopes c.args.atoms.now c.loop-atom.atom-index c.loop-atom.invariant c.atom-item.result c.loop-atom-test.true c.atom-item.is
    c.requires.over

pub returns-in_err-assert-clause-lower : goal.returns-in_err-assert-clause-lower
returns-in_err-assert-clause-lower c =
    still_over_same c.args.store.now.scopes c.assert.new.self.scopes c.args.atoms.now c.loop-atom.atom-index
    (ap (λ (z : Stored). z.scopes) c.in_err-assert.ensures.err ∙ c.loop-atom.invariant)

pub returns-in-Clash-clause-lower : goal.returns-in-Clash-clause-lower
returns-in-Clash-clause-lower c =
    let answer = subst (λ (z : Asserted). IsAnswer c.loop-atom.store.scopes c.assert.new.self.scopes c.atom-item.result z) c.in-Clash.is c.in_ok-assert.ensures.answer in
    still_over_same c.args.store.now.scopes c.assert.new.self.scopes c.args.atoms.now c.loop-atom.atom-index (answer.0 ∙ c.loop-atom.invariant)

pub returns-in-Clash-clause-answer : goal.returns-in-Clash-clause-answer
returns-in-Clash-clause-answer c =
    let answer = subst (λ (z : Asserted). IsAnswer c.loop-atom.store.scopes c.assert.new.self.scopes c.atom-item.result z) c.in-Clash.is c.in_ok-assert.ensures.answer in
    one_clashes c.args.store.now.scopes c.loop-atom.store.scopes c.args.atoms.now c.loop-atom.atom-index c.loop-atom.invariant c.atom-item.result c.loop-atom-test.true c.atom-item.is
    c.requires.some c.assert.new.self.scopes answer

pub loop-atom-preserved : goal.loop-atom-preserved
loop-atom-preserved c =
    let answer = subst (λ (z : Asserted). IsAnswer c.loop-atom.store.scopes c.assert.new.self.scopes c.atom-item.result z) c.in-Kept.is c.in_ok-assert.ensures.answer in
    one_kept c.args.store.now.scopes c.loop-atom.store.scopes c.args.atoms.now c.loop-atom.atom-index c.loop-atom.invariant c.atom-item.result c.loop-atom-test.true c.atom-item.is
    c.assert.new.self.scopes c.in-Kept.added answer

pub returns-clause-lower : goal.returns-clause-lower
returns-clause-lower c = still_over_same c.args.store.now.scopes c.loop-atom.store.scopes c.args.atoms.now c.loop-atom.atom-index c.loop-atom.invariant

pub returns-clause-answer : goal.returns-clause-answer
returns-clause-answer c =
    all_asserted c.args.store.now.scopes c.loop-atom.store.scopes c.args.atoms.now c.loop-atom.atom-index c.loop-atom.invariant c.loop-atom-test.false
