use Rattle.std.proofs.Common.{length, map, sym, ap}
use Rattle.std.specs.Prelude.{reverse}
use Rattle.std.proofs.lemmas.List.{length-map}
use Rattle.term_graph.specs.Contents.{root}
use Rattle.term_graph.specs.Fields.{fields, bindings_of}
use Rattle.term_graph.proofs.Making.{interned-good_by, interned-now_by, roots_are, all_within}
use Rattle.term_graph.proofs.Trailing.{AreGood-now}
use Rattle.term_graph.proofs.graph.Graph.intern_term.Goals as goal

pub share-requires-clause-good : goal.share-requires-clause-good
share-requires-clause-good c = AreGood-now (reverse c.self.inside.trail.items) (fields c.self.inside.parts) c.self.invariant

pub invariant_of-self : goal.invariant_of-self
invariant_of-self c =
    let i = c.self.inside in
    let f = fields i.parts in
    let g = AreGood-now (reverse i.trail.items) (fields i.parts) c.self.invariant in
    let b = bindings_of i.parts.slots.items in
    interned-good_by c.share.result i.trail.items c.share.new.trail.items (fields i.parts) (fields c.share.new.parts) c.args.symbol (map (root (bindings_of i.parts.slots.items)) c.args.args.now)
    (roots_are (bindings_of i.parts.slots.items) g.ringed.forest c.args.args.now (all_within (length c.args.self.now.contents.bindings) (length (bindings_of i.parts.slots.items)) c.args.args.now (ap (λ h. length h.contents.bindings) (sym c.self.view_is)) c.requires.within))
    (rw length-map c.requires.few) c.share.ensures.ok c.share.ensures.fields_err c.share.ensures.trail_err c.self.invariant

pub returns-clause-ok : goal.returns-clause-ok
returns-clause-ok c =
    let i = c.self.inside in
    let g = AreGood-now (reverse i.trail.items) (fields i.parts) c.self.invariant in
    interned-now_by c.share.result i.trail.items c.share.new.trail.items (fields i.parts) (fields c.share.new.parts) c.args.symbol c.args.args.now c.args.self.now
    (roots_are (bindings_of i.parts.slots.items) g.ringed.forest c.args.args.now (all_within (length c.args.self.now.contents.bindings) (length (bindings_of i.parts.slots.items)) c.args.args.now (ap (λ h. length h.contents.bindings) (sym c.self.view_is)) c.requires.within))
    c.self.invariant c.self.view_is c.share.ensures.ok
