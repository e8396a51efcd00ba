use Rattle.std.proofs.Common.{List, [], ◌∷◌, ◌++◌, ap, ◌∙◌}
use Rattle.flat_form.specs.declared.atom.Flat.{Flat}
use Rattle.basic_solver.specs.declared.scope.Scope.{Scope}
use Rattle.graph_store.proofs.Growth.{first_level}
use Rattle.graph_store.proofs.store.Store.new.Goals as goal

pub invariant_of-result : goal.invariant_of-result
invariant_of-result c =
    first_level c.new-graph.result c.grow.new.graph c.new-2.result.items c.push.new.self.items c.new-3.result.items c.args.variables c.new-graph.ensures c.in_ok-grow.ensures.grown
    c.new-2.ensures.items c.new-3.ensures.items
    (c.in_ok-push.ensures.items
    ∙ ap (λ (zs : List Scope). zs ++ record { variables = c.args.variables; atoms = c.new.result } ∷ []) c.new-scopes.ensures.items
    ∙ ap (λ (z : List Flat). record { variables = c.args.variables; atoms = z } ∷ []) c.new.ensures)
