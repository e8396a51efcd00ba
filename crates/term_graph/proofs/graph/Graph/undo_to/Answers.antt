use Rattle.std.proofs.Common.{◌<◌, ◌∙◌, sym, length, arith}
use Rattle.term_graph.specs.Contents.{back_to}
use Rattle.term_graph.proofs.Trailing.{back_to-now, back_before, within_before}
use Rattle.term_graph.proofs.graph.Graph.undo_to.Goals as goal

pub back-preserved : goal.back-preserved
back-preserved c =
    let l : c.args.m.length < length c.back.self.trail = omega arith in
    record {
      back = back_before c.args.m.length c.undo_last.new.self c.back.self (back_to c.args.m.length c.args.self.now) c.undo_last.ensures l c.back.invariant.back;
      within = within_before c.args.m.length c.undo_last.new.self c.back.self c.undo_last.ensures l;
    }

pub returns : goal.returns
returns c = sym (back_to-now c.args.m.length c.back.self (omega arith)) ∙ c.back.invariant.back
