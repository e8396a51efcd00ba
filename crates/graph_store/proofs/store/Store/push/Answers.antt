use Rattle.std.proofs.Common.{◌∙◌}
use Rattle.graph_store.proofs.Pushing.{opened_to}
use Rattle.graph_store.proofs.store.Store.push.Goals as goal

pub invariant_of-self-in-Ok-push-2 : goal.invariant_of-self-in-Ok-push-2
invariant_of-self-in-Ok-push-2 c =
    opened_to c.self.inside.graph c.grow.new.graph c.self.inside.owners.items c.self.inside.scopes.items c.push-2.new.self.items c.self.inside.floors.items c.push.new.self.items
    (record { mark = c.mark.result; owners = c.len.result }) c.args.variables c.new-atoms.result c.self.invariant c.in-Ok.ensures.grows c.in-Ok.ensures.grown c.mark.ensures
    (c.len.ensures ∙ c.self.inside.owners.ok.0) c.new-atoms.ensures c.in-Ok-push-2.ensures.items c.in-Ok-push.ensures.items
