use Rattle.std.proofs.Common.{◌≡◌, ◌++◌, ◌∷◌, [], ◌-◌, List, length, sym, ap, ◌∙◌, subst, arith}
use Rattle.std.proofs.lemmas.List.{length-append}
use Rattle.basic_solver.specs.declared.scope.Scope.{Scope}
use Rattle.basic_solver.specs.Stores.{Stored, open_in, below, IsStore}
use Rattle.basic_solver.proofs.Storing.{open_push, below_push, store_front}
use Rattle.basic_solver.proofs.store.Store.pop.Goals as goal

pub overflow_sub-self : goal.overflow_sub-self
overflow_sub-self c =
    let front = c.pop.new.self.items in
    let e : c.self.inside.scopes.items ≡ front ++ c.in-Some.scope ∷ [] = c.in-Some.ensures.items in
    omega (arith, c.self.invariant.counted, ap open_in e, open_push front c.in-Some.scope)

pub invariant_of-self : goal.invariant_of-self
invariant_of-self c =
    let front = c.pop.new.self.items in
    let e : c.self.inside.scopes.items ≡ front ++ c.in-Some.scope ∷ [] = c.in-Some.ensures.items in
    store_front c.self.inside.count front c.in-Some.scope
    (omega (arith, c.requires, ap (λ (z : Stored). length z.scopes) c.self.view_is, ap length e, length-append front (c.in-Some.scope ∷ [])))
    (subst (λ (z : List Scope). IsStore c.self.inside.count z) e c.self.invariant) (c.self.inside.count - c.in-Some.scope.variables)
    (omega (arith, c.self.invariant.counted, ap open_in e, open_push front c.in-Some.scope))

pub returns-in-Some : goal.returns-in-Some
returns-in-Some c =
    let front = c.pop.new.self.items in
    let e : c.self.inside.scopes.items ≡ front ++ c.in-Some.scope ∷ [] = c.in-Some.ensures.items in
    sym (below_push front c.in-Some.scope) ∙ ap below (sym e ∙ ap (λ (z : Stored). z.scopes) c.self.view_is)
