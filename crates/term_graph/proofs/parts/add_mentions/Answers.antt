use Rattle.std.proofs.Common.{◌∙◌, ap, length, arith}
use Rattle.term_graph.proofs.Interning.{mention_fits, rings_long, cells_long, rings_step, cells_step, rings_back, cells_back_at}
use Rattle.term_graph.specs.Fields.{cut_off}
use Rattle.term_graph.proofs.parts.add_mentions.Goals as goal

pub add_mention-requires : goal.add_mention-requires
add_mention-requires c =
    mention_fits c.args.slots.now.items c.args.args.now c.args.rings.now c.loop-i.rings c.loop-i.i c.get-variable.result.now c.index.result.now c.requires.inside c.requires.heads (omega arith) c.get-variable.ensures c.index.ensures c.loop-i.invariant.rings

pub loop-i-preserved : goal.loop-i-preserved
loop-i-preserved c = record {
  cells = cells_step c.args.slots.now.items c.args.args.now c.args.rings.now c.loop-i.rings c.loop-i.i c.get-variable.result.now c.index.result.now c.requires.inside c.requires.heads (omega arith) c.get-variable.ensures c.index.ensures c.loop-i.invariant.rings
      c.args.term c.args.cells.now.items c.loop-i.cells.items c.add_mention.new.cells.items c.loop-i.invariant.cells c.in-Ok.ensures.cells;
  rings = rings_step c.args.slots.now.items c.args.args.now c.args.rings.now c.loop-i.rings c.loop-i.i c.get-variable.result.now c.index.result.now c.requires.inside c.requires.heads (omega arith) c.get-variable.ensures c.index.ensures c.loop-i.invariant.rings
      c.add_mention.new.rings c.in-Ok.ensures.rings;
}

pub cut_cells-requires-clause-within : goal.cut_cells-requires-clause-within
cut_cells-requires-clause-within c =
    let k = cells_long c.args.slots.now.items c.args.args.now c.args.rings.now c.loop-i.rings c.loop-i.i c.get-variable.result.now c.index.result.now c.requires.inside c.requires.heads (omega arith) c.get-variable.ensures c.index.ensures c.loop-i.invariant.rings
    c.args.term c.args.cells.now.items c.loop-i.cells.items c.loop-i.invariant.cells in
    let e = ap length c.in-Err.ensures.cells_err in
    omega arith

pub cut_cells-requires-clause-rings : goal.cut_cells-requires-clause-rings
cut_cells-requires-clause-rings c =
    let k = rings_long c.args.slots.now.items c.args.args.now c.args.rings.now c.loop-i.rings c.loop-i.i c.get-variable.result.now c.index.result.now c.requires.inside c.requires.heads (omega arith) c.get-variable.ensures c.index.ensures c.loop-i.invariant.rings in
    let e = ap length c.in-Err.ensures.rings_err in
    omega arith

pub returns-in-Err-clause-cells_err : goal.returns-in-Err-clause-cells_err
returns-in-Err-clause-cells_err c =
    c.cut_cells.ensures.cells
    ∙ cells_back_at c.args.slots.now.items c.args.args.now c.args.rings.now c.loop-i.rings c.loop-i.i c.get-variable.result.now c.index.result.now c.requires.inside c.requires.heads (omega arith) c.get-variable.ensures c.index.ensures c.loop-i.invariant.rings
    c.args.term c.args.cells.now.items c.add_mention.new.cells.items (c.in-Err.ensures.cells_err ∙ c.loop-i.invariant.cells)

pub returns-in-Err-clause-rings_err : goal.returns-in-Err-clause-rings_err
returns-in-Err-clause-rings_err c =
    c.cut_cells.ensures.rings ∙ ap (cut_off c.loop-i.i) c.in-Err.ensures.rings_err
    ∙ rings_back c.args.slots.now.items c.args.args.now c.args.rings.now c.loop-i.rings c.loop-i.i c.get-variable.result.now c.index.result.now c.requires.inside c.requires.heads (omega arith) c.get-variable.ensures c.index.ensures c.loop-i.invariant.rings
