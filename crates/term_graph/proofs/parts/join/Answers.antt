use Rattle.std.proofs.Common.{◌∙◌, ap, refl, sym, subst}
use Rattle.index_lists.specs.Rings.{exchanged}
use Rattle.term_graph.specs.Contents.{AreUsers}
use Rattle.term_graph.proofs.Forming.{args_within}
use Rattle.term_graph.specs.Fields.{fields, bindings_of}
use Rattle.term_graph.proofs.Splicing.{with_next, fields_spliced_back, head_within, users_within, forest_then, joined_then, room_then}
use Rattle.term_graph.proofs.parts.join.Goals as goal

pub splice-cut-requires-clause-a_in : goal.splice-cut-requires-clause-a_in
splice-cut-requires-clause-a_in c = head_within (fields c.args.parts.now) c.requires.good c.args.root c.head_at-root_head.result c.requires.root_in c.head_at-root_head.ensures

pub rebind-requires-clause-within : goal.rebind-requires-clause-within
rebind-requires-clause-within c = users_within (fields c.args.parts.now) c.requires.good c.args.v c.as_slice.result.now (subst (AreUsers (bindings_of c.args.parts.now.slots.items) c.args.parts.now.terms.items c.args.v) (sym c.as_slice.ensures) c.in_ok-moved.ensures)

pub rebind-requires-clause-args : goal.rebind-requires-clause-args
rebind-requires-clause-args c = args_within (fields c.args.parts.now) c.requires.good

pub rebind-requires-clause-forest : goal.rebind-requires-clause-forest
rebind-requires-clause-forest c = forest_then (fields c.args.parts.now) c.requires.good c.args.v c.args.to c.args.root c.requires.v_in c.requires.to_in c.requires.root_in c.requires.open c.requires.apart c.requires.leads

pub returns-clause-fields : goal.returns-clause-fields
returns-clause-fields c =
    joined_then (fields c.args.parts.now) c.requires.good c.args.v c.args.to c.args.root c.requires.v_in c.requires.to_in c.requires.root_in c.requires.open c.requires.apart c.requires.leads
    c.head_at-variable_head.result c.head_at-root_head.result c.as_slice.result.now c.splice-cut.new.self c.head_at-variable_head.ensures c.head_at-root_head.ensures (subst (AreUsers (bindings_of c.args.parts.now.slots.items) c.args.parts.now.terms.items c.args.v) (sym c.as_slice.ensures) c.in_ok-moved.ensures) c.splice-cut.ensures.exchanged
    (fields c.rebind.new.parts) c.merge.new.classes.items c.in-Ok-rebind.ensures.ok c.merge.ensures

pub returns-in-Err-clause-fields_err : goal.returns-in-Err-clause-fields_err
returns-in-Err-clause-fields_err c =
    let al = head_within (fields c.args.parts.now) c.requires.good c.args.root c.head_at-root_head.result c.requires.root_in c.head_at-root_head.ensures in
    let bl = head_within (fields c.args.parts.now) c.requires.good c.args.v c.head_at-variable_head.result c.requires.v_in c.head_at-variable_head.ensures in
    fields_spliced_back (fields c.args.parts.now) (with_next c.splice-cut.new.self (fields c.args.parts.now)) c.head_at-root_head.result c.head_at-variable_head.result c.splice-cut.new.self c.unsplice.new.self al bl c.splice-cut.ensures.exchanged refl
    (c.unsplice.ensures.exchanged ∙ ap (λ k. exchanged k.a k.b c.splice-cut.new.self) c.splice-cut.ensures.cut)

pub returns-in-Err-rebind-clause-fields_err : goal.returns-in-Err-rebind-clause-fields_err
returns-in-Err-rebind-clause-fields_err c =
    let al = head_within (fields c.args.parts.now) c.requires.good c.args.root c.head_at-root_head.result c.requires.root_in c.head_at-root_head.ensures in
    let bl = head_within (fields c.args.parts.now) c.requires.good c.args.v c.head_at-variable_head.result c.requires.v_in c.head_at-variable_head.ensures in
    fields_spliced_back (fields c.args.parts.now) (fields c.rebind.new.parts) c.head_at-root_head.result c.head_at-variable_head.result c.splice-cut.new.self c.unsplice-in-Err-rebind.new.self al bl c.splice-cut.ensures.exchanged c.in-Err-rebind.ensures.err
    (c.unsplice-in-Err-rebind.ensures.exchanged ∙ ap (λ k. exchanged k.a k.b c.rebind.new.parts.rings) c.splice-cut.ensures.cut)

pub merge-requires-clause-room : goal.merge-requires-clause-room
merge-requires-clause-room c =
    room_then (fields c.args.parts.now) c.requires.good c.args.v c.args.to c.args.root c.requires.v_in c.requires.to_in c.requires.root_in c.requires.open c.requires.apart c.requires.leads
    c.head_at-variable_head.result c.head_at-root_head.result c.as_slice.result.now c.splice-cut.new.self c.head_at-variable_head.ensures c.head_at-root_head.ensures (subst (AreUsers (bindings_of c.args.parts.now.slots.items) c.args.parts.now.terms.items c.args.v) (sym c.as_slice.ensures) c.in_ok-moved.ensures) c.splice-cut.ensures.exchanged
    (fields c.rebind.new.parts) c.len-cells.result c.in-Ok-rebind.ensures.ok c.len-cells.ensures c.len-cells.type_inv
