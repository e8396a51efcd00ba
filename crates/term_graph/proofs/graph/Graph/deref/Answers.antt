use Rattle.std.proofs.Common.{◌∙◌, ap}
use Rattle.std.specs.Prelude.{reverse}
use Rattle.term_graph.specs.Contents.{root}
use Rattle.term_graph.specs.Fields.{fields, bindings_of}
use Rattle.term_graph.proofs.Trailing.{AreGood-now}
use Rattle.term_graph.proofs.Forests.{root_is}
use Rattle.term_graph.proofs.graph.Graph.deref.Goals as goal

pub root_of-requires-clause-forest : goal.root_of-requires-clause-forest
root_of-requires-clause-forest c = let i = c.self.inside in (AreGood-now (reverse i.trail.items) (fields i.parts) c.self.invariant).ringed.forest

pub returns-clause-root : goal.returns-clause-root
returns-clause-root c =
    let i = c.self.inside in
    let g = AreGood-now (reverse i.trail.items) (fields i.parts) c.self.invariant in
    root_is (bindings_of i.parts.slots.items) g.ringed.forest c.args.v c.root_of.result c.root_of.ensures.leads ∙ ap (λ h. root h.contents.bindings c.args.v) c.self.view_is
