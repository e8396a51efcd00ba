use Rattle.std.proofs.Common.{arith}
use Rattle.term_graph.specs.Fields.{fields}
use Rattle.term_graph.proofs.Trailing.{told_at, moment_in}
use Rattle.term_graph.proofs.graph.Graph.step.Goals as goal

pub index-requires : goal.index-requires
index-requires c =
    let i = c.self.inside in
    let k = moment_in i.trail.items (fields i.parts) c.args.self.now c.args.moment c.self.view_is c.requires in
    omega arith

pub returns : goal.returns
returns c =
    let i = c.self.inside in
    told_at i.trail.items (fields i.parts) c.args.self.now c.args.moment c.index.result.now c.tell.result c.self.invariant c.self.view_is (moment_in i.trail.items (fields i.parts) c.args.self.now c.args.moment c.self.view_is c.requires)
    c.index.ensures c.tell.ensures
