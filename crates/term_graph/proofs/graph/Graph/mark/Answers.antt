use Rattle.std.proofs.Common.{ap, length}
use Rattle.std.specs.Prelude.{reverse}
use Rattle.std.proofs.lemmas.List.{length-reverse}
use Rattle.term_graph.specs.Fields.{fields}
use Rattle.term_graph.proofs.Trailing.{length-moments}
use Rattle.term_graph.proofs.graph.Graph.mark.Goals as goal

pub returns : goal.returns
returns c =
    let i = c.self.inside in
    let a = length-moments (reverse i.trail.items) (fields i.parts) in
    let b = length-reverse i.trail.items in
    let e = ap (λ h. length h.trail) c.self.view_is in
    cc
