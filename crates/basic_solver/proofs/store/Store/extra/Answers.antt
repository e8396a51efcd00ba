use Rattle.std.proofs.Common.{ℕ, ◌≡◌, ◌+◌, ◌-◌, List, length, get_or, take, ap, ◌∙◌, subst, arith}
use Rattle.flat_form.specs.declared.atom.Flat.{Flat}
use Rattle.flat_form.specs.Numbering.{BasicOver}
use Rattle.basic_solver.specs.declared.scope.Scope.{Scope}
use Rattle.basic_solver.specs.Stores.{Stored, atoms_of, open_in, below, IsStore, IsExtraFor, IsExtraOf, MeansTop, IsEmptyWhereImplied}
use Rattle.basic_solver.proofs.Stored.{if_ok, split_last, lower_over, top_over, extra_of_store, means_top, empty_where_implied}
use Rattle.basic_solver.proofs.store.Store.extra.Goals as goal

pub extra_of-requires-clause-lower : goal.extra_of-requires-clause-lower
extra_of-requires-clause-lower c =
    let now = c.args.self.now.scopes in
    let view : c.self.inside.scopes.items ≡ now = ap (λ (z : Stored). z.scopes) c.self.view_is in
    let count = c.self.inside.count in
    let store : IsStore count now = subst (λ (z : List Scope). IsStore count z) view c.self.invariant in
    let i = c.len-top.result - 1 in
    let x = c.index.result.now in
    let lower = c.in_ok-lower.lower in
    let len : i + 1 ≡ length now = omega (arith, c.requires, c.len-top.ensures, c.self.inside.scopes.ok.0, ap length view) in
    let at : x ≡ get_or now i x = subst (λ (z : List Scope). x ≡ get_or z i x) view c.index.ensures in
    let split = split_last now i x len at in
    let under : lower ≡ atoms_of (below now) =
    c.in_ok-lower.ensures ∙ ap (λ (z : List Scope). atoms_of (take i z)) (c.as_slice.ensures.value ∙ view) ∙ ap atoms_of split.0 in
    lower_over count now store lower x.atoms under split.1

pub extra_of-requires-clause-top : goal.extra_of-requires-clause-top
extra_of-requires-clause-top c =
    let now = c.args.self.now.scopes in
    let view : c.self.inside.scopes.items ≡ now = ap (λ (z : Stored). z.scopes) c.self.view_is in
    let count = c.self.inside.count in
    let store : IsStore count now = subst (λ (z : List Scope). IsStore count z) view c.self.invariant in
    let i = c.len-top.result - 1 in
    let x = c.index.result.now in
    let lower = c.in_ok-lower.lower in
    let len : i + 1 ≡ length now = omega (arith, c.requires, c.len-top.ensures, c.self.inside.scopes.ok.0, ap length view) in
    let at : x ≡ get_or now i x = subst (λ (z : List Scope). x ≡ get_or z i x) view c.index.ensures in
    let split = split_last now i x len at in
    let under : lower ≡ atoms_of (below now) =
    c.in_ok-lower.ensures ∙ ap (λ (z : List Scope). atoms_of (take i z)) (c.as_slice.ensures.value ∙ view) ∙ ap atoms_of split.0 in
    top_over count now store lower x.atoms under split.1

pub returns-clause-extra : goal.returns-clause-extra
returns-clause-extra c =
    let now = c.args.self.now.scopes in
    let view : c.self.inside.scopes.items ≡ now = ap (λ (z : Stored). z.scopes) c.self.view_is in
    let count = c.self.inside.count in
    let store : IsStore count now = subst (λ (z : List Scope). IsStore count z) view c.self.invariant in
    let i = c.len-top.result - 1 in
    let x = c.index.result.now in
    let lower = c.in_ok-lower.lower in
    let len : i + 1 ≡ length now = omega (arith, c.requires, c.len-top.ensures, c.self.inside.scopes.ok.0, ap length view) in
    let at : x ≡ get_or now i x = subst (λ (z : List Scope). x ≡ get_or z i x) view c.index.ensures in
    let split = split_last now i x len at in
    let under : lower ≡ atoms_of (below now) =
    c.in_ok-lower.ensures ∙ ap (λ (z : List Scope). atoms_of (take i z)) (c.as_slice.ensures.value ∙ view) ∙ ap atoms_of split.0 in
    if_ok c.extra_of.result (IsExtraFor lower x.atoms) (IsExtraOf now) (λ extra f. extra_of_store count now store lower x.atoms under split.1 extra f) c.extra_of.ensures.extra

pub returns-clause-means : goal.returns-clause-means
returns-clause-means c =
    let now = c.args.self.now.scopes in
    let view : c.self.inside.scopes.items ≡ now = ap (λ (z : Stored). z.scopes) c.self.view_is in
    let count = c.self.inside.count in
    let store : IsStore count now = subst (λ (z : List Scope). IsStore count z) view c.self.invariant in
    let i = c.len-top.result - 1 in
    let x = c.index.result.now in
    let lower = c.in_ok-lower.lower in
    let len : i + 1 ≡ length now = omega (arith, c.requires, c.len-top.ensures, c.self.inside.scopes.ok.0, ap length view) in
    let at : x ≡ get_or now i x = subst (λ (z : List Scope). x ≡ get_or z i x) view c.index.ensures in
    let split = split_last now i x len at in
    let under : lower ≡ atoms_of (below now) =
    c.in_ok-lower.ensures ∙ ap (λ (z : List Scope). atoms_of (take i z)) (c.as_slice.ensures.value ∙ view) ∙ ap atoms_of split.0 in
    if_ok c.extra_of.result (IsExtraFor lower x.atoms) (MeansTop now) (λ extra f. means_top count now store lower x.atoms under split.1 extra f) c.extra_of.ensures.extra

pub returns-clause-empty : goal.returns-clause-empty
returns-clause-empty c =
    let now = c.args.self.now.scopes in
    let view : c.self.inside.scopes.items ≡ now = ap (λ (z : Stored). z.scopes) c.self.view_is in
    let count = c.self.inside.count in
    let store : IsStore count now = subst (λ (z : List Scope). IsStore count z) view c.self.invariant in
    let i = c.len-top.result - 1 in
    let x = c.index.result.now in
    let lower = c.in_ok-lower.lower in
    let len : i + 1 ≡ length now = omega (arith, c.requires, c.len-top.ensures, c.self.inside.scopes.ok.0, ap length view) in
    let at : x ≡ get_or now i x = subst (λ (z : List Scope). x ≡ get_or z i x) view c.index.ensures in
    let split = split_last now i x len at in
    let under : lower ≡ atoms_of (below now) =
    c.in_ok-lower.ensures ∙ ap (λ (z : List Scope). atoms_of (take i z)) (c.as_slice.ensures.value ∙ view) ∙ ap atoms_of split.0 in
    if_ok c.extra_of.result (IsExtraFor lower x.atoms) (IsEmptyWhereImplied now) (λ extra f. empty_where_implied count now store lower x.atoms under split.1 extra f) c.extra_of.ensures.extra

pub returns-clause-over : goal.returns-clause-over
returns-clause-over c =
    let now = c.args.self.now.scopes in
    let count = c.self.inside.count in
    let view : c.self.inside.scopes.items ≡ now = ap (λ (z : Stored). z.scopes) c.self.view_is in
    let counted : count ≡ open_in now = c.self.invariant.counted ∙ ap open_in view in
    if_ok c.extra_of.result (λ (z : List Flat). BasicOver count z) (λ (z : List Flat). BasicOver (open_in now) z)
    (λ extra over. subst (λ (z : ℕ). BasicOver z extra) counted over) c.extra_of.ensures.over
