use Rattle.std.proofs.Common.{◌≡◌, ◌∙◌, refl, length, arith}
use Rattle.term_graph.specs.Fields.{fields}
use Rattle.term_graph.proofs.Interning.{whole_cells_long, whole_cells_back, whole_rings_long, whole_rings_back, fields_as, keys_back}
use Rattle.term_graph.proofs.Making.{room_made}
use Rattle.term_graph.proofs.parts.make.Goals as goal

pub cut_cells-requires-clause-within : goal.cut_cells-requires-clause-within
cut_cells-requires-clause-within c =
    whole_cells_long c.len-number.result c.len-count.result c.args.term.args c.args.parts.now.cells.items c.add_mentions.new.cells.items c.len-count.ensures c.in_ok-add_mentions.ensures.cells

pub cut_cells-requires-clause-rings : goal.cut_cells-requires-clause-rings
cut_cells-requires-clause-rings c =
    whole_rings_long c.args.parts.now.slots.items c.len-count.result c.args.term.args c.args.parts.now.rings c.add_mentions.new.rings c.len-count.ensures c.requires.inside c.requires.heads c.in_ok-add_mentions.ensures.rings

pub cut_cells-requires-in-Err-push-clause-within : goal.cut_cells-requires-in-Err-push-clause-within
cut_cells-requires-in-Err-push-clause-within c =
    whole_cells_long c.len-number.result c.len-count.result c.args.term.args c.args.parts.now.cells.items c.add_mentions.new.cells.items c.len-count.ensures c.in_ok-add_mentions.ensures.cells

pub cut_cells-requires-in-Err-push-clause-rings : goal.cut_cells-requires-in-Err-push-clause-rings
cut_cells-requires-in-Err-push-clause-rings c =
    whole_rings_long c.args.parts.now.slots.items c.len-count.result c.args.term.args c.args.parts.now.rings c.add_mentions.new.rings c.len-count.ensures c.requires.inside c.requires.heads c.in_ok-add_mentions.ensures.rings

pub returns-in-Err-clause-err : goal.returns-in-Err-clause-err
returns-in-Err-clause-err c =
    fields_as (fields c.args.parts.now) c.args.parts.now.terms.items c.cut_cells.new.cells.items c.cut_cells.new.rings c.add_key.new.table.entries refl
    (c.cut_cells.ensures.cells ∙ whole_cells_back c.len-number.result c.len-count.result c.args.term.args c.args.parts.now.cells.items c.add_mentions.new.cells.items c.len-count.ensures c.in_ok-add_mentions.ensures.cells)
    (c.cut_cells.ensures.rings ∙ whole_rings_back c.args.parts.now.slots.items c.len-count.result c.args.term.args c.args.parts.now.rings c.add_mentions.new.rings c.len-count.ensures c.requires.inside c.requires.heads c.in_ok-add_mentions.ensures.rings)
    c.in-Err.ensures.err

pub returns-in-Err-push-clause-err : goal.returns-in-Err-push-clause-err
returns-in-Err-push-clause-err c =
    fields_as (fields c.args.parts.now) c.push.new.self.items c.cut_cells-in-Err-push.new.cells.items c.cut_cells-in-Err-push.new.rings c.truncate.new.self.entries c.in-Err-push.ensures.items
    (c.cut_cells-in-Err-push.ensures.cells ∙ whole_cells_back c.len-number.result c.len-count.result c.args.term.args c.args.parts.now.cells.items c.add_mentions.new.cells.items c.len-count.ensures c.in_ok-add_mentions.ensures.cells)
    (c.cut_cells-in-Err-push.ensures.rings ∙ whole_rings_back c.args.parts.now.slots.items c.len-count.result c.args.term.args c.args.parts.now.rings c.add_mentions.new.rings c.len-count.ensures c.requires.inside c.requires.heads c.in_ok-add_mentions.ensures.rings)
    (keys_back c.args.parts.now.table.entries c.add_key.new.table.entries c.truncate.new.self.entries (c.args.key, c.len-number.result) c.len-keys.result c.len-keys.ensures.len c.in-Ok.ensures.ok c.truncate.ensures.entries)

pub weigh-requires : goal.weigh-requires
weigh-requires c =
    let n : c.len-number.result ≡ length c.args.parts.now.terms.items = omega arith in
    room_made c.args.parts.now.slots.items c.args.parts.now.classes.items c.args.parts.now.terms.items c.push.new.self.items c.args.term c.index-made.result.now c.len-number.result c.args.parts.now.rings c.add_mentions.new.rings c.len-cells.result
    c.requires.inside c.requires.heads c.requires.classes c.in_ok-add_mentions.ensures.rings c.in-Ok-push.ensures.items n c.index-made.ensures c.len-cells.ensures c.len-cells.type_inv
