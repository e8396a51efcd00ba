use Rattle.term_graph.specs.Fields.{fields}
use Rattle.term_graph.proofs.Adding.{added-good_by, added-is_by}
use Rattle.term_graph.proofs.graph.Graph.add_variable.Goals as goal

pub invariant_of-self : goal.invariant_of-self
invariant_of-self c =
    let i = c.self.inside in
    added-good_by c.add.result i.trail.items c.add.new.trail.items (fields i.parts) (fields c.add.new.parts) c.add.ensures.fields c.add.ensures.trail c.add.ensures.fields_err c.add.ensures.trail_err c.self.invariant

pub returns-clause-ok : goal.returns-clause-ok
returns-clause-ok c =
    let i = c.self.inside in
    added-is_by c.add.result i.trail.items c.add.new.trail.items (fields i.parts) (fields c.add.new.parts) c.args.self.now c.self.invariant c.self.view_is c.add.ensures.fields c.add.ensures.trail
