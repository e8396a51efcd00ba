use Rattle.std.proofs.Common.{◌≡◌, ◌∙◌, ap, sym, subst, length, refl, length-set, arith, []}
use Rattle.term_graph.specs.declared.bound.Bound.TheVariants.{Variable}
use Rattle.term_graph.specs.Contents.{IsForest}
use Rattle.term_graph.specs.Fields.{fields, bindings_of}
use Rattle.term_graph.specs.Noting.{AreNoted, AreKeysBelow}
use Rattle.term_graph.proofs.Rebinding.{bindings-rebound, rebound-back, lowered_back, entries_back, fields_back}
use Rattle.term_graph.proofs.parts.rebind.Goals as goal

pub note_all-requires-clause-forest : goal.note_all-requires-clause-forest
note_all-requires-clause-forest c =
    subst IsForest (sym (ap bindings_of c.set_binding.ensures ∙ bindings-rebound c.args.parts.now.slots.items c.args.v (Variable c.args.to))) c.requires.forest

pub returns-in-Err-clause-err : goal.returns-in-Err-clause-err
returns-in-Err-clause-err c =
    let n : c.len-count.result ≡ length c.args.parts.now.lowered.items = omega arith in
    fields_back (fields c.args.parts.now) c.set_binding-in-Err.new.slots.items c.unshare.new.table.entries c.unshare.new.lowered.items
    (rebound-back c.args.parts.now.slots.items c.set_binding.new.slots.items c.set_binding-in-Err.new.slots.items c.args.v (Variable c.args.to) c.binding_at-before.result c.requires.v_in c.binding_at-before.ensures c.set_binding.ensures c.set_binding-in-Err.ensures)
    (entries_back c.args.parts.now.table.entries c.note_all.new.table.entries c.unshare.new.table.entries c.args.parts.now.lowered.items c.note_all.new.lowered.items c.len-count.result c.len-keys.result n c.len-keys.ensures.len c.in-Err.ensures.kept c.unshare.ensures.entries)
    (lowered_back c.args.parts.now.table.entries c.note_all.new.table.entries c.args.parts.now.lowered.items c.note_all.new.lowered.items c.unshare.new.lowered.items c.len-count.result n c.in-Err.ensures.kept c.unshare.ensures.lowered)

pub returns-clause-ok : goal.returns-clause-ok
returns-clause-ok c =
    let b' = ap bindings_of c.set_binding.ensures ∙ bindings-rebound c.args.parts.now.slots.items c.args.v (Variable c.args.to) in
    record {
      same = rw c.set_binding.ensures refl;
      kept = c.in-Ok.ensures.kept;
      noted = λ b h. subst (λ z. AreNoted b z c.args.parts.now.terms.items c.note_all.new.table.entries c.args.moved.now) b' (c.in-Ok.ensures.noted b (subst (λ z. AreNoted b z c.args.parts.now.terms.items c.args.parts.now.table.entries []) (sym b') h));
      keys = λ h. (let k = ap length b' ∙ length-set (bindings_of c.args.parts.now.slots.items) c.args.v (Variable c.args.to) in
          subst (λ z. AreKeysBelow z c.note_all.new.table.entries) k (c.in-Ok.ensures.keys (subst (λ z. AreKeysBelow z c.args.parts.now.table.entries) (sym k) h)));
    }
