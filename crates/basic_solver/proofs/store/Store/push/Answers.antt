use Rattle.std.proofs.Common.{ℕ, ◌≡◌, ◌+◌, ◌++◌, ◌∷◌, [], List, sym, subst, arith}
use Rattle.basic_solver.specs.declared.scope.Scope.{Scope}
use Rattle.basic_solver.specs.Stores.{IsStore}
use Rattle.basic_solver.proofs.Storing.{store_push}
use Rattle.basic_solver.proofs.store.Store.push.Goals as goal

pub invariant_of-self : goal.invariant_of-self
invariant_of-self c =
    let s : Scope = record { variables = c.args.variables; atoms = c.new-atoms.result } in
    let new : c.push.new.self.items ≡ c.self.inside.scopes.items ++ s ∷ [] = c.in-Ok.ensures.items in
    let count : c.self.inside.count + c.args.variables ≡ c.in-Some.count = omega (arith, c.in-Some.ensures) in
    subst (λ (z : ℕ). IsStore z c.push.new.self.items) count
    (subst (λ (z : List Scope). IsStore (c.self.inside.count + c.args.variables) z) (sym new)
    (store_push c.self.inside.count c.self.inside.scopes.items s c.new-atoms.ensures c.self.invariant))
