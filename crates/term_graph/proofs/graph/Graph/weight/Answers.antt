use Rattle.std.proofs.Common.{arith}
use Rattle.std.specs.Prelude.{reverse}
use Rattle.term_graph.specs.Fields.{fields}
use Rattle.term_graph.proofs.Counting.{kept_in, weight_read}
use Rattle.term_graph.proofs.graph.Graph.weight.Goals as goal

pub index-requires : goal.index-requires
index-requires c =
    let i = c.self.inside in
    let k = kept_in (reverse i.trail.items) (fields i.parts) c.args.self.now c.args.v c.deref-root.result c.self.invariant c.self.view_is c.requires c.deref-root.ensures.within c.deref-root.ensures.root in
    omega arith

pub returns : goal.returns
returns c =
    let i = c.self.inside in
    weight_read (reverse i.trail.items) (fields i.parts) c.args.self.now c.args.v c.deref-root.result c.self.invariant c.self.view_is c.requires c.deref-root.ensures.within c.deref-root.ensures.root c.index.result.now c.index.ensures
