use Rattle.std.proofs.Common.{subst}
use Rattle.std.specs.Prelude.{reverse}
use Rattle.term_graph.specs.Contents.{IsWellFormed}
use Rattle.term_graph.specs.Fields.{fields}
use Rattle.term_graph.proofs.Forming.{good-formed}
use Rattle.term_graph.proofs.Trailing.{AreGood-now}
use Rattle.term_graph.proofs.graph.Graph.well_formed.Goals as goal

pub returns : goal.returns
returns c =
    let i = c.self.inside in
    subst (λ h. IsWellFormed h.contents) c.self.view_is (good-formed (fields i.parts) (AreGood-now (reverse i.trail.items) (fields i.parts) c.self.invariant))
