use Rattle.std.proofs.Common.{ℕ, ◌≡◌, List, length, sym, ap, ◌∙◌, subst, arith}
use Rattle.flat_form.specs.declared.atom.Flat.{Flat}
use Rattle.flat_form.specs.Numbering.{BasicOver}
use Rattle.flat_form.specs.Solved.{IsSolved}
use Rattle.basic_solver.specs.declared.scope.Scope.{Scope}
use Rattle.basic_solver.specs.Stores.{Stored, atoms_of, open_in, IsStore, IsFormOf, MeansAll, IsFormFor}
use Rattle.basic_solver.proofs.Stored.{if_ok, store_over, gathered, form_of_store, means_store}
use Rattle.basic_solver.proofs.store.Store.basic.Goals as goal

pub solved-requires : goal.solved-requires
solved-requires c =
    let now = c.args.self.now.scopes in
    let view : c.self.inside.scopes.items ≡ now = ap (λ (z : Stored). z.scopes) c.self.view_is in
    let count = c.self.inside.count in
    let store : IsStore count now = subst (λ (z : List Scope). IsStore count z) view c.self.invariant in
    let atoms = c.in_ok-atoms.atoms in
    let gather : atoms ≡ atoms_of now = gathered now c.as_slice.result.now c.len.result atoms (c.as_slice.ensures.value ∙ view)
    (omega (arith, c.len.ensures, c.self.inside.scopes.ok.0, ap length view)) c.in_ok-atoms.ensures in
    subst (λ (z : List Flat). BasicOver count z) (sym gather) (store_over count now store)

pub returns-clause-form : goal.returns-clause-form
returns-clause-form c =
    let now = c.args.self.now.scopes in
    let view : c.self.inside.scopes.items ≡ now = ap (λ (z : Stored). z.scopes) c.self.view_is in
    let count = c.self.inside.count in
    let store : IsStore count now = subst (λ (z : List Scope). IsStore count z) view c.self.invariant in
    let atoms = c.in_ok-atoms.atoms in
    let gather : atoms ≡ atoms_of now = gathered now c.as_slice.result.now c.len.result atoms (c.as_slice.ensures.value ∙ view)
    (omega (arith, c.len.ensures, c.self.inside.scopes.ok.0, ap length view)) c.in_ok-atoms.ensures in
    if_ok c.solved.result (λ (z : List Flat). IsFormFor count atoms z) (IsFormOf now) (λ form f. form_of_store count now store atoms form gather f) c.solved.ensures

pub returns-clause-means : goal.returns-clause-means
returns-clause-means c =
    let now = c.args.self.now.scopes in
    let view : c.self.inside.scopes.items ≡ now = ap (λ (z : Stored). z.scopes) c.self.view_is in
    let count = c.self.inside.count in
    let store : IsStore count now = subst (λ (z : List Scope). IsStore count z) view c.self.invariant in
    let atoms = c.in_ok-atoms.atoms in
    let gather : atoms ≡ atoms_of now = gathered now c.as_slice.result.now c.len.result atoms (c.as_slice.ensures.value ∙ view)
    (omega (arith, c.len.ensures, c.self.inside.scopes.ok.0, ap length view)) c.in_ok-atoms.ensures in
    if_ok c.solved.result (λ (z : List Flat). IsFormFor count atoms z) (MeansAll now) (λ form f. means_store count now store atoms form gather f) c.solved.ensures

pub returns-clause-shape : goal.returns-clause-shape
returns-clause-shape c =
    if_ok c.solved.result (λ (z : List Flat). IsFormFor c.self.inside.count c.in_ok-atoms.atoms z) IsSolved (λ form f. f.shape) c.solved.ensures

pub returns-clause-over : goal.returns-clause-over
returns-clause-over c =
    let now = c.args.self.now.scopes in
    let count = c.self.inside.count in
    let view : c.self.inside.scopes.items ≡ now = ap (λ (z : Stored). z.scopes) c.self.view_is in
    let counted : count ≡ open_in now = c.self.invariant.counted ∙ ap open_in view in
    if_ok c.solved.result (λ (z : List Flat). IsFormFor count c.in_ok-atoms.atoms z) (λ (z : List Flat). BasicOver (open_in now) z)
    (λ form f. subst (λ (z : ℕ). BasicOver z form) counted f.over) c.solved.ensures
