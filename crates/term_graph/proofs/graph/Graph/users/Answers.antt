use Rattle.std.proofs.Common.{◌∙◌, ap}
use Rattle.std.specs.Prelude.{reverse}
use Rattle.term_graph.specs.Contents.{History, target_of}
use Rattle.term_graph.specs.Fields.{fields}
use Rattle.term_graph.proofs.Adding.{within_slots}
use Rattle.term_graph.proofs.Trailing.{AreGood-now}
use Rattle.term_graph.proofs.Forests.{leads_open}
use Rattle.term_graph.proofs.graph.Graph.users.Goals as goal

pub users-requires : goal.users-requires
users-requires c =
    let i = c.self.inside in
    record {
      good = AreGood-now (reverse i.trail.items) (fields i.parts) c.self.invariant;
      class_in = within_slots (reverse i.trail.items) (fields i.parts) c.deref-root.result c.args.self.now c.self.view_is c.deref-root.ensures.within;
      «open» = ap (λ (h : History). target_of h.contents.bindings c.deref-root.result) c.self.view_is ∙ leads_open c.args.self.now.contents.bindings c.deref-root.ensures.leads;
    }
