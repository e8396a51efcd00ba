use Rattle.std.proofs.Common.{List, refl, sym, subst}
use Rattle.flat_form.specs.declared.atom.Flat.{Flat}
use Rattle.kept_cubes.specs.Asking.{AreAsserted}
use Rattle.flat_form.specs.Numbering.{BasicOver}
use Rattle.basic_solver.specs.Stores.{open_in}
use Rattle.working_rules.proofs.Rounds.{above_one, none_more, pushed_basic, asserted_if}
use Rattle.working_rules.proofs.round.enter.Goals as goal

pub returns-then-not-round-clause-asserted : goal.returns-then-not-round-clause-asserted
returns-then-not-round-clause-asserted c = λ atoms are.
    none_more atoms c.args.slot.now.basic c.args.round.now.variables c.in-Some.variables c.args.store.now.scopes c.args.round.now.is_solvable c.if-not-round.true are

pub assert_all-requires-clause-over : goal.assert_all-requires-clause-over
assert_all-requires-clause-over c =
    subst (λ (z : List Flat). BasicOver (open_in c.push.new.self.scopes) z) (sym c.as_slice.ensures)
    (pushed_basic c.requires.so_far.0 c.args.slot.now.basic c.args.store.now.scopes c.push.new.self.scopes _ c.args.round.now.variables c.args.round.now.is_solvable
    c.in_ok-push.ensures.ok c.if-not-round.false c.requires.so_far.1 c.requires.over)

pub returns-in_err-round-clause-above : goal.returns-in_err-round-clause-above
returns-in_err-round-clause-above c = λ lowest above.
    above_one lowest c.args.store.now.scopes c.push.new.self.scopes c.assert_all.new.store.scopes _ c.args.round.now.scopes _ c.in_ok-push.ensures.ok c.assert_all.ensures.lower refl above

pub returns-clause-above : goal.returns-clause-above
returns-clause-above c = λ lowest above.
    above_one lowest c.args.store.now.scopes c.push.new.self.scopes c.assert_all.new.store.scopes _ c.args.round.now.scopes _ c.in_ok-push.ensures.ok c.assert_all.ensures.lower refl above

pub returns-clause-asserted : goal.returns-clause-asserted
returns-clause-asserted c = λ atoms are.
    asserted_if atoms c.args.slot.now.basic c.args.store.now.scopes c.push.new.self.scopes c.assert_all.new.store.scopes _ c.args.round.now.variables c.in-Some.variables
    c.args.round.now.is_solvable c.in_ok-round.field-0 c.if-not-round.false c.in_ok-push.ensures.ok refl c.in-Some.ensures.1 are
    (subst (λ (z : List Flat). AreAsserted c.push.new.self.scopes z c.assert_all.new.store.scopes c.in_ok-round.field-0) c.as_slice.ensures c.in_ok-round.ensures.answer)
