use Rattle.std.proofs.Common.{subst}
use Rattle.flat_form.specs.Added.{IsSolvedForm}
use Rattle.settled_facts.proofs.Terms.{shaped_of}
use Rattle.settled_facts.proofs.ReadOff.{settled_form}
use Rattle.basic_solver.specs.Stores.{Stored, atoms_of}
use Rattle.graph_store.proofs.Pushing.{level_now}
use Rattle.graph_store.proofs.store.Store.basic.Goals as goal

pub returns : goal.returns
returns c =
    let contents = c.self.inside.graph.contents in
    let level = level_now c.self.inside.graph c.self.inside.owners.items c.self.inside.scopes.items c.self.inside.floors.items c.self.invariant in
    subst (λ (z : Stored). IsSolvedForm (atoms_of z.scopes) c.in_ok-form.form) c.self.view_is
    ((settled_form contents c.self.inside.owners.items (atoms_of c.self.inside.scopes.items) c.in_ok-form.form (shaped_of contents c.well_formed-2.ensures) level.settled).0 c.in_ok-form.ensures)
