use Rattle.std.proofs.Common.{◌≡◌, ◌<◌, ◌∙◌, ap, length, subst, sym}
use Rattle.std.specs.Prelude.{reverse}
use Rattle.term_graph.specs.declared.bound.Bound.TheVariants.{Free}
use Rattle.term_graph.specs.Contents.{binding_of}
use Rattle.term_graph.specs.Fields.{fields, bindings_of}
use Rattle.term_graph.proofs.Adding.{within_slots}
use Rattle.term_graph.proofs.Terming.{termed-good_by, termed-is_by}
use Rattle.term_graph.proofs.graph.Graph.bind_term.Goals as goal

pub invariant_of-self : goal.invariant_of-self
invariant_of-self c =
    let i = c.self.inside in
    let f = fields i.parts in
    let l : c.args.v < length i.parts.slots.items = within_slots (reverse i.trail.items) (fields i.parts) c.args.v c.args.self.now c.self.view_is c.requires.v_in in
    let o : binding_of (bindings_of i.parts.slots.items) c.args.v ≡ Free = ap (λ h. binding_of h.contents.bindings c.args.v) c.self.view_is ∙ c.requires.free in
    let t : c.args.t < length i.parts.terms.items = subst (λ h. c.args.t < length h.contents.terms) (sym c.self.view_is) c.requires.t_in in
    termed-good_by (fields i.parts) c.args.v c.args.t l o t c.bind_term.result i.trail.items c.bind_term.new.trail.items (fields c.bind_term.new.parts) c.bind_term.ensures.fields c.bind_term.ensures.trail c.bind_term.ensures.fields_err c.bind_term.ensures.trail_err c.self.invariant

pub returns-clause-ok : goal.returns-clause-ok
returns-clause-ok c =
    let i = c.self.inside in
    let f = fields i.parts in
    let l : c.args.v < length i.parts.slots.items = within_slots (reverse i.trail.items) (fields i.parts) c.args.v c.args.self.now c.self.view_is c.requires.v_in in
    let o : binding_of (bindings_of i.parts.slots.items) c.args.v ≡ Free = ap (λ h. binding_of h.contents.bindings c.args.v) c.self.view_is ∙ c.requires.free in
    let t : c.args.t < length i.parts.terms.items = subst (λ h. c.args.t < length h.contents.terms) (sym c.self.view_is) c.requires.t_in in
    termed-is_by (fields i.parts) c.args.v c.args.t l o t c.bind_term.result i.trail.items c.bind_term.new.trail.items (fields c.bind_term.new.parts) c.args.self.now c.self.view_is c.bind_term.ensures.fields c.bind_term.ensures.trail
