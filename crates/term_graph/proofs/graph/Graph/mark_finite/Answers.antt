use Rattle.std.proofs.Common.{◌≡◌, ◌<◌, ◌∙◌, ap, sym, length, false}
use Rattle.std.specs.Prelude.{reverse}
use Rattle.std.proofs.lemmas.List.{get_or_read}
use Rattle.term_graph.specs.Fields.{fields, free, slot_at}
use Rattle.term_graph.proofs.Adding.{within_slots}
use Rattle.term_graph.proofs.Marking.{marked-good_by, marked-is_by}
use Rattle.term_graph.proofs.graph.Graph.mark_finite.Goals as goal

pub invariant_of-self : goal.invariant_of-self
invariant_of-self c =
    let i = c.self.inside in
    let f = fields i.parts in
    let l : c.args.v < length i.parts.slots.items = within_slots (reverse i.trail.items) f c.args.v c.args.self.now c.self.view_is c.requires in
    let e : (slot_at i.parts.slots.items c.args.v).finite ≡ false = ap (λ s. s.finite) (sym (get_or_read i.parts.slots.items c.args.v c.index.result.now l c.index.ensures (free 0))) ∙ c.if-index.false in
    marked-good_by f c.args.v l e c.mark.result i.trail.items c.mark.new.trail.items (fields c.mark.new.parts) c.mark.ensures.fields c.mark.ensures.trail c.mark.ensures.fields_err c.mark.ensures.trail_err c.self.invariant

pub returns-clause-ok : goal.returns-clause-ok
returns-clause-ok c =
    let i = c.self.inside in
    let f = fields i.parts in
    let l : c.args.v < length i.parts.slots.items = within_slots (reverse i.trail.items) f c.args.v c.args.self.now c.self.view_is c.requires in
    let e : (slot_at i.parts.slots.items c.args.v).finite ≡ false = ap (λ s. s.finite) (sym (get_or_read i.parts.slots.items c.args.v c.index.result.now l c.index.ensures (free 0))) ∙ c.if-index.false in
    marked-is_by f c.args.v l e c.mark.result i.trail.items c.mark.new.trail.items (fields c.mark.new.parts) c.args.self.now c.self.view_is c.mark.ensures.fields c.mark.ensures.trail
