use Rattle.std.proofs.Common.{ℕ, ◌≡◌, Bool, true, List, length, sym, ap, ◌∙◌, subst, arith}
use Rattle.flat_form.specs.declared.atom.Flat.{Flat}
use Rattle.flat_form.specs.Numbering.{AtomOver, BasicOver}
use Rattle.basic_solver.specs.declared.scope.Scope.{Scope}
use Rattle.basic_solver.specs.Stores.{Stored, atoms_of, open_in, with_atom, IsStore, IsVerdict}
use Rattle.basic_solver.proofs.Storing.{store_with}
use Rattle.basic_solver.proofs.Stored.{store_over, gathered, all_over, clash_answer, solvable_with, kept_answer}
use Rattle.basic_solver.proofs.store.Store.assert.Goals as goal

pub is_solvable-requires : goal.is_solvable-requires
is_solvable-requires c =
    let now = c.args.self.now.scopes in
    let view : c.self.inside.scopes.items ≡ now = ap (λ (z : Stored). z.scopes) c.self.view_is in
    let count = c.self.inside.count in
    let store : IsStore count now = subst (λ (z : List Scope). IsStore count z) view c.self.invariant in
    let atoms = c.in_ok-atoms.atoms in
    let gather : atoms ≡ atoms_of now = gathered now c.as_slice.result.now c.len.result atoms (c.as_slice.ensures.value ∙ view)
    (omega (arith, c.len.ensures, c.self.inside.scopes.ok.0, ap length view)) c.in_ok-atoms.ensures in
    all_over now c.args.atom.now atoms c.in_ok-all.all gather c.in_ok-all.ensures count store c.requires

pub returns-then-not-branch-clause-answer : goal.returns-then-not-branch-clause-answer
returns-then-not-branch-clause-answer c =
    let now = c.args.self.now.scopes in
    let view : c.self.inside.scopes.items ≡ now = ap (λ (z : Stored). z.scopes) c.self.view_is in
    let count = c.self.inside.count in
    let store : IsStore count now = subst (λ (z : List Scope). IsStore count z) view c.self.invariant in
    let atoms = c.in_ok-atoms.atoms in
    let gather : atoms ≡ atoms_of now = gathered now c.as_slice.result.now c.len.result atoms (c.as_slice.ensures.value ∙ view)
    (omega (arith, c.len.ensures, c.self.inside.scopes.ok.0, ap length view)) c.in_ok-atoms.ensures in
    clash_answer now c.args.atom.now atoms c.in_ok-all.all gather c.in_ok-all.ensures
    (subst (λ (z : Bool). IsVerdict c.in_ok-all.all z) c.if-not-branch.true c.in_ok-is_solvable.ensures)

pub says_more-requires-clause-over : goal.says_more-requires-clause-over
says_more-requires-clause-over c =
    let now = c.args.self.now.scopes in
    let view : c.self.inside.scopes.items ≡ now = ap (λ (z : Stored). z.scopes) c.self.view_is in
    let count = c.self.inside.count in
    let store : IsStore count now = subst (λ (z : List Scope). IsStore count z) view c.self.invariant in
    let atoms = c.in_ok-atoms.atoms in
    let gather : atoms ≡ atoms_of now = gathered now c.as_slice.result.now c.len.result atoms (c.as_slice.ensures.value ∙ view)
    (omega (arith, c.len.ensures, c.self.inside.scopes.ok.0, ap length view)) c.in_ok-atoms.ensures in
    subst (λ (z : List Flat). BasicOver count z) (sym gather) (store_over count now store)

pub invariant_of-self-2 : goal.invariant_of-self-2
invariant_of-self-2 c =
    let now = c.args.self.now.scopes in
    let view : c.self.inside.scopes.items ≡ now = ap (λ (z : Stored). z.scopes) c.self.view_is in
    let count = c.self.inside.count in
    let store : IsStore count now = subst (λ (z : List Scope). IsStore count z) view c.self.invariant in
    let atoms = c.in_ok-atoms.atoms in
    let gather : atoms ≡ atoms_of now = gathered now c.as_slice.result.now c.len.result atoms (c.as_slice.ensures.value ∙ view)
    (omega (arith, c.len.ensures, c.self.inside.scopes.ok.0, ap length view)) c.in_ok-atoms.ensures in
    let verdict : IsVerdict c.in_ok-all.all true = subst (λ (z : Bool). IsVerdict c.in_ok-all.all z) c.if-not-branch.false c.in_ok-is_solvable.ensures in
    let kept : c.keep.new.scopes.items ≡ with_atom c.args.atom.now now =
    c.in_ok-keep.ensures.ok ∙ ap (λ (z : Flat). with_atom z c.self.inside.scopes.items) c.in_ok-copy.ensures ∙ ap (with_atom c.args.atom.now) view in
    subst (λ (z : List Scope). IsStore count z) (sym kept)
    (store_with count now c.args.atom.now store c.requires (solvable_with now c.args.atom.now atoms c.in_ok-all.all gather c.in_ok-all.ensures verdict))

pub returns-clause-answer : goal.returns-clause-answer
returns-clause-answer c =
    let now = c.args.self.now.scopes in
    let view : c.self.inside.scopes.items ≡ now = ap (λ (z : Stored). z.scopes) c.self.view_is in
    let count = c.self.inside.count in
    let store : IsStore count now = subst (λ (z : List Scope). IsStore count z) view c.self.invariant in
    let atoms = c.in_ok-atoms.atoms in
    let gather : atoms ≡ atoms_of now = gathered now c.as_slice.result.now c.len.result atoms (c.as_slice.ensures.value ∙ view)
    (omega (arith, c.len.ensures, c.self.inside.scopes.ok.0, ap length view)) c.in_ok-atoms.ensures in
    let verdict : IsVerdict c.in_ok-all.all true = subst (λ (z : Bool). IsVerdict c.in_ok-all.all z) c.if-not-branch.false c.in_ok-is_solvable.ensures in
    let kept : c.keep.new.scopes.items ≡ with_atom c.args.atom.now now =
    c.in_ok-keep.ensures.ok ∙ ap (λ (z : Flat). with_atom z c.self.inside.scopes.items) c.in_ok-copy.ensures ∙ ap (with_atom c.args.atom.now) view in
    kept_answer now c.args.atom.now atoms c.in_ok-all.all gather c.in_ok-all.ensures c.keep.new.scopes.items c.in_ok-added.added verdict c.in_ok-added.ensures kept

pub says_more-requires-clause-one : goal.says_more-requires-clause-one
says_more-requires-clause-one c =
    let now = c.args.self.now.scopes in
    let view : c.self.inside.scopes.items ≡ now = ap (λ (z : Stored). z.scopes) c.self.view_is in
    subst (λ (z : ℕ). AtomOver z c.args.atom.now) (sym (c.self.invariant.counted ∙ ap open_in view)) c.requires
