use Rattle.std.specs.Prelude.{reverse}
use Rattle.term_graph.specs.Fields.{fields}
use Rattle.term_graph.proofs.Trailing.{AreGood-now}
use Rattle.term_graph.proofs.graph.Graph.find.Goals as goal

pub shared-requires-clause-good : goal.shared-requires-clause-good
shared-requires-clause-good c = AreGood-now (reverse c.self.inside.trail.items) (fields c.self.inside.parts) c.self.invariant
