use Rattle.std.proofs.Common.{◌<◌, ◌∙◌, arith, get_or, length, map, sym, ap, subst, refl}
use Rattle.std.specs.Prelude.{All}
use Rattle.std.proofs.lemmas.List.{length-map}
use Rattle.term_graph.specs.Contents.{term_at, root}
use Rattle.term_graph.specs.Fields.{bindings_of}
use Rattle.term_graph.specs.Keys.{sign_of}
use Rattle.term_graph.proofs.Lowest.{noted_step}
use Rattle.term_graph.proofs.Making.{key_below, term_is}
use Rattle.term_graph.proofs.Restoring.{kept-on}
use Rattle.term_graph.proofs.parts.note_all.Goals as goal

pub key_of-requires-clause-within : goal.key_of-requires-clause-within
key_of-requires-clause-within c =
    let t = get_or c.args.moved.now c.loop-i.i 0 in
    let tl : get_or c.args.moved.now c.loop-i.i 0 < length c.args.terms.now.items = c.requires.within c.loop-i.i (omega arith) in
    subst (All (λ x. x < length c.args.slots.now.items)) (sym (c.as_slice.ensures ∙ ap (λ z. z.args) (term_is c.args.terms.now.items (get_or c.args.moved.now c.loop-i.i 0) c.index-in-loop-i.result.now tl c.index-in-loop-i.ensures)))
    (c.requires.args (get_or c.args.moved.now c.loop-i.i 0) tl)

pub loop-i-preserved : goal.loop-i-preserved
loop-i-preserved c =
    let t = get_or c.args.moved.now c.loop-i.i 0 in
    let tl : get_or c.args.moved.now c.loop-i.i 0 < length c.args.terms.now.items = c.requires.within c.loop-i.i (omega arith) in
    let e = c.as_slice.ensures ∙ ap (λ z. z.args) (term_is c.args.terms.now.items (get_or c.args.moved.now c.loop-i.i 0) c.index-in-loop-i.result.now tl c.index-in-loop-i.ensures) in
    let s = term_is c.args.terms.now.items (get_or c.args.moved.now c.loop-i.i 0) c.index.result.now tl c.index.ensures in
    let k = c.in_ok-key.ensures.1 ∙ ap (map (root (bindings_of c.args.slots.now.items))) e in
    record {
      kept = kept-on c.args.table.now.entries c.loop-i.table.entries c.note.new.table.entries c.args.lowered.now.items c.loop-i.lowered.items c.note.new.lowered.items c.loop-i.invariant.kept c.in_ok-note.ensures.kept;
      noted = λ b h. noted_step b (bindings_of c.args.slots.now.items) c.args.terms.now.items c.loop-i.table.entries c.note.new.table.entries c.args.moved.now c.loop-i.i (get_or c.args.moved.now c.loop-i.i 0) c.in_ok-key.key (omega arith) refl tl
          (c.in_ok-key.ensures.0 ∙ ap (λ z. sign_of z.symbol) s) k c.in_ok-note.ensures.noted (c.loop-i.invariant.noted b h);
      keys = λ h. c.in_ok-note.ensures.keys (length (bindings_of c.args.slots.now.items))
          (key_below (bindings_of c.args.slots.now.items) c.requires.forest (length c.args.slots.now.items) (sym (length-map c.args.slots.now.items (λ s. s.binding))) (term_at c.args.terms.now.items (get_or c.args.moved.now c.loop-i.i 0)).args c.in_ok-key.key.args.items
          (c.requires.args (get_or c.args.moved.now c.loop-i.i 0) tl) k)
          (c.loop-i.invariant.keys h);
    }

pub returns-in_err-note-clause-keys : goal.returns-in_err-note-clause-keys
returns-in_err-note-clause-keys c =
    let tl : get_or c.args.moved.now c.loop-i.i 0 < length c.args.terms.now.items = c.requires.within c.loop-i.i (omega arith) in
    let e = c.as_slice.ensures ∙ ap (λ z. z.args) (term_is c.args.terms.now.items (get_or c.args.moved.now c.loop-i.i 0) c.index-in-loop-i.result.now tl c.index-in-loop-i.ensures) in
    let k = c.in_ok-key.ensures.1 ∙ ap (map (root (bindings_of c.args.slots.now.items))) e in
    λ h. c.in_err-note.ensures.keys (length (bindings_of c.args.slots.now.items))
    (key_below (bindings_of c.args.slots.now.items) c.requires.forest (length c.args.slots.now.items) (sym (length-map c.args.slots.now.items (λ s. s.binding))) (term_at c.args.terms.now.items (get_or c.args.moved.now c.loop-i.i 0)).args c.in_ok-key.key.args.items
    (c.requires.args (get_or c.args.moved.now c.loop-i.i 0) tl) k)
    (c.loop-i.invariant.keys h)
