use Rattle.std.proofs.Common.{◌≡◌, ◌<◌, ◌∙◌, ap, length, subst, sym, None}
use Rattle.std.specs.Prelude.{reverse}
use Rattle.term_graph.specs.Contents.{History, target_of, Leads}
use Rattle.term_graph.specs.Fields.{fields, bindings_of}
use Rattle.term_graph.proofs.Adding.{within_slots}
use Rattle.term_graph.proofs.Joined.{joined-good_by, joined-is_by}
use Rattle.term_graph.proofs.Trailing.{AreGood-now}
use Rattle.term_graph.proofs.graph.Graph.bind_variable.Goals as goal

pub join-requires-clause-good : goal.join-requires-clause-good
join-requires-clause-good c = AreGood-now (reverse c.self.inside.trail.items) (fields c.self.inside.parts) c.self.invariant

pub invariant_of-self : goal.invariant_of-self
invariant_of-self c =
    let i = c.self.inside in
    let l : c.args.v < length i.parts.slots.items = within_slots (reverse i.trail.items) (fields i.parts) c.args.v c.args.self.now c.self.view_is c.requires.v_in in
    let m : c.args.to < length i.parts.slots.items = within_slots (reverse i.trail.items) (fields i.parts) c.args.to c.args.self.now c.self.view_is c.requires.to_in in
    let k : c.deref-root.result < length i.parts.slots.items = within_slots (reverse i.trail.items) (fields i.parts) c.deref-root.result c.args.self.now c.self.view_is c.deref-root.ensures.within in
    let o : target_of (bindings_of i.parts.slots.items) c.args.v ≡ None = ap (λ (h : History). target_of h.contents.bindings c.args.v) c.self.view_is ∙ c.requires.open in
    let x : Leads (bindings_of i.parts.slots.items) c.args.to c.deref-root.result = subst (λ (h : History). Leads h.contents.bindings c.args.to c.deref-root.result) (sym c.self.view_is) c.deref-root.ensures.leads in
    joined-good_by i.trail.items c.join.new.trail.items (fields i.parts) (fields c.join.new.parts) c.args.v c.args.to c.deref-root.result l m k o (λ e. c.requires.apart (sym c.deref-root.ensures.root ∙ e)) x
    c.join.result c.join.ensures.fields c.join.ensures.trail c.join.ensures.fields_err c.join.ensures.trail_err c.self.invariant

pub returns-clause-ok : goal.returns-clause-ok
returns-clause-ok c =
    let i = c.self.inside in
    let l : c.args.v < length i.parts.slots.items = within_slots (reverse i.trail.items) (fields i.parts) c.args.v c.args.self.now c.self.view_is c.requires.v_in in
    let m : c.args.to < length i.parts.slots.items = within_slots (reverse i.trail.items) (fields i.parts) c.args.to c.args.self.now c.self.view_is c.requires.to_in in
    let k : c.deref-root.result < length i.parts.slots.items = within_slots (reverse i.trail.items) (fields i.parts) c.deref-root.result c.args.self.now c.self.view_is c.deref-root.ensures.within in
    let o : target_of (bindings_of i.parts.slots.items) c.args.v ≡ None = ap (λ (h : History). target_of h.contents.bindings c.args.v) c.self.view_is ∙ c.requires.open in
    let x : Leads (bindings_of i.parts.slots.items) c.args.to c.deref-root.result = subst (λ (h : History). Leads h.contents.bindings c.args.to c.deref-root.result) (sym c.self.view_is) c.deref-root.ensures.leads in
    joined-is_by i.trail.items c.join.new.trail.items (fields i.parts) (fields c.join.new.parts) c.args.v c.args.to c.deref-root.result l m k o (λ e. c.requires.apart (sym c.deref-root.ensures.root ∙ e)) x
    c.join.result c.args.self.now c.self.invariant c.self.view_is c.join.ensures.fields c.join.ensures.trail
