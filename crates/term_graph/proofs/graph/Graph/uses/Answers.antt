use Rattle.std.specs.Prelude.{reverse}
use Rattle.term_graph.specs.Fields.{fields}
use Rattle.term_graph.proofs.Counting.{uses_read}
use Rattle.term_graph.proofs.Trailing.{AreGood-now}
use Rattle.term_graph.proofs.graph.Graph.uses.Goals as goal

pub uses_of-requires-clause-good : goal.uses_of-requires-clause-good
uses_of-requires-clause-good c = AreGood-now (reverse c.self.inside.trail.items) (fields c.self.inside.parts) c.self.invariant

pub returns : goal.returns
returns c =
    let i = c.self.inside in
    uses_read (reverse i.trail.items) (fields i.parts) c.args.self.now c.args.v c.deref-root.result c.self.invariant c.self.view_is c.requires c.deref-root.ensures.within c.deref-root.ensures.root c.uses_of.result c.uses_of.ensures
