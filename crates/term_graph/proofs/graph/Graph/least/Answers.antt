use Rattle.std.proofs.Common.{arith}
use Rattle.std.specs.Prelude.{reverse}
use Rattle.term_graph.specs.Fields.{fields}
use Rattle.term_graph.proofs.Counting.{kept_in, least_read, least_in}
use Rattle.term_graph.proofs.graph.Graph.least.Goals as goal

pub index-requires : goal.index-requires
index-requires c =
    let i = c.self.inside in
    let k = kept_in (reverse i.trail.items) (fields i.parts) c.args.self.now c.args.v c.deref-root.result c.self.invariant c.self.view_is c.requires c.deref-root.ensures.within c.deref-root.ensures.root in
    omega arith

pub returns-clause-least : goal.returns-clause-least
returns-clause-least c =
    let i = c.self.inside in
    least_read (reverse i.trail.items) (fields i.parts) c.args.self.now c.args.v c.deref-root.result c.self.invariant c.self.view_is c.requires c.deref-root.ensures.within c.deref-root.ensures.root c.index.result.now c.index.ensures

pub returns-clause-within : goal.returns-clause-within
returns-clause-within c =
    let i = c.self.inside in
    least_in (reverse i.trail.items) (fields i.parts) c.args.self.now c.args.v c.deref-root.result c.self.invariant c.self.view_is c.requires c.deref-root.ensures.within c.deref-root.ensures.root c.index.result.now c.index.ensures
