use Rattle.std.proofs.Common.{ℕ, ◌≡◌, ◌++◌, Bool, true, false, List, subst, sym, ap, ◌∙◌, arith}
use Rattle.std.specs.Prelude.{IfOk}
use Rattle.std.proofs.lemmas.Result.{IfOk-weaker}
use Rattle.tree_model.specs.Signatures.{Signature}
use Rattle.flat_form.specs.declared.atom.Flat.{Flat}
use Rattle.flat_form.specs.declared.cube.Part.{Part}
use Rattle.flat_form.specs.Added.{IsSolvedForm}
use Rattle.flat_form.specs.Fitting.{BasicFits}
use Rattle.flat_form.specs.Meanings.{HasNone}
use Rattle.flat_form.specs.Numbering.{BasicOver}
use Rattle.basic_solver.specs.declared.scope.Scope.{Scope}
use Rattle.basic_solver.specs.Stores.{open_in, atoms_of}
use Rattle.kept_cubes.specs.Asking.{with_atoms, AreAsserted, EachFailsSomewhere, HoldsTogether}
use Rattle.kept_cubes.proofs.WithAtoms.{open_with_all, atoms_with_all}
use Rattle.kept_cubes.proofs.Together.{clash_nowhere}
use Rattle.kept_cubes.proofs.Failing.{holds_together}
use Rattle.kept_cubes.proofs.asking.holds_in_top.Goals as goal

pub returns-then-not-branch-clause-answer : goal.returns-then-not-branch-clause-answer
returns-then-not-branch-clause-answer c =
    let is : c.in_ok-assert_all.field-0 ≡ false = c.if-not-branch.true in
    let old = c.args.store.now.scopes in
    let none = subst (λ (z : Bool). AreAsserted old c.as_slice.result.now c.assert_all.new.store.scopes z) is c.in_ok-assert_all.ensures.answer in
    clash_nowhere (atoms_of old) c.args.c.now (subst (λ (z : List Flat). HasNone (atoms_of old ++ z)) c.as_slice.ensures none)

pub all_fail-requires-clause-counted : goal.all_fail-requires-clause-counted
all_fail-requires-clause-counted c =
    let is : c.in_ok-assert_all.field-0 ≡ true = c.if-not-branch.false in
    let old = c.args.store.now.scopes in
    let asserted = subst (λ (z : Bool). AreAsserted old c.as_slice.result.now c.assert_all.new.store.scopes z) is c.in_ok-assert_all.ensures.answer in
    c.requires.counted ∙ sym (ap open_in asserted ∙ open_with_all c.as_slice.result.now old)

pub returns-clause-answer : goal.returns-clause-answer
returns-clause-answer c =
    let is : c.in_ok-assert_all.field-0 ≡ true = c.if-not-branch.false in
    let old = c.args.store.now.scopes in
    let now = c.assert_all.new.store.scopes in
    let cube = c.args.c.now in
    let asserted = subst (λ (z : Bool). AreAsserted old c.as_slice.result.now now z) is c.in_ok-assert_all.ensures.answer in
    let atoms_are : atoms_of now ≡ atoms_of old ++ cube.basic =
    ap atoms_of asserted ∙ atoms_with_all c.as_slice.result.now old c.requires.some ∙ ap (λ (z : List Flat). atoms_of old ++ z) c.as_slice.ensures in
    let counted : c.args.m ≡ open_in now = c.requires.counted ∙ sym (ap open_in asserted ∙ open_with_all c.as_slice.result.now old) in
    IfOk-weaker c.all_fail.result (EachFailsSomewhere c.args.m (atoms_of now) c.as_slice-2.result.now) (HoldsTogether (atoms_of old) cube)
    (λ found each.
    holds_together (atoms_of old) cube c.args.m c.requires.variables c.in_ok-basic.field-0
    (subst (λ (n : ℕ). BasicOver n c.in_ok-basic.field-0) (sym counted) c.in_ok-basic.ensures.over)
    (λ σ. subst (λ (z : List Flat). BasicFits σ z → IsSolvedForm z c.in_ok-basic.field-0) atoms_are (c.in_ok-basic.ensures.form σ)) found
    (subst (λ (z : List Flat). EachFailsSomewhere c.args.m z cube.parts found) atoms_are
    (subst (λ (z : List Part). EachFailsSomewhere c.args.m (atoms_of now) z found) c.as_slice-2.ensures each)))
    c.all_fail.ensures.answer
