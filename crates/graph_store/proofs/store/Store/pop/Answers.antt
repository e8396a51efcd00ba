use Rattle.std.proofs.Common.{ℕ, ◌-◌, take, ap, ◌∙◌}
use Rattle.basic_solver.specs.Stores.{Stored, below}
use Rattle.graph_store.proofs.Popping.{popped, popped_scopes, popped_to}
use Rattle.graph_store.proofs.store.Store.pop.Goals as goal

pub undo_to-requires : goal.undo_to-requires
undo_to-requires c =
    (popped c.self.inside.graph c.self.inside.owners.items c.self.inside.scopes.items c.self.inside.floors.items c.pop.new.self.items c.in-Some.floor c.self.invariant c.in-Some.ensures.items).0

pub invariant_of-self : goal.invariant_of-self
invariant_of-self c =
    popped_to c.self.inside.graph c.undo_to.new.self c.self.inside.owners.items c.truncate.new.self.items c.self.inside.scopes.items c.pop-in-Some.new.self.items
    c.self.inside.floors.items c.pop.new.self.items c.in-Some.floor c.self.invariant c.in-Some.ensures.items c.undo_to.ensures c.truncate.ensures.items
    (c.pop-in-Some.ensures.rest ∙ ap (λ (n : ℕ). take (n - 1) c.self.inside.scopes.items) c.self.inside.scopes.ok.0)

pub returns-in-Some : goal.returns-in-Some
returns-in-Some c =
    c.pop-in-Some.ensures.rest
    ∙ ap (λ (n : ℕ). take (n - 1) c.self.inside.scopes.items) c.self.inside.scopes.ok.0
    ∙ popped_scopes c.self.inside.graph c.self.inside.owners.items c.self.inside.scopes.items c.self.inside.floors.items c.pop.new.self.items c.in-Some.floor c.self.invariant c.in-Some.ensures.items
    ∙ ap (λ (z : Stored). below z.scopes) c.self.view_is
