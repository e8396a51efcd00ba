use Rattle.std.proofs.Common.{◌<◌, ◌∙◌, length, arith}
use Rattle.term_graph.proofs.Restoring.{popped-within, popped-first, popped-back}
use Rattle.term_graph.proofs.parts.unshare.Goals as goal

pub loop-lowered-preserved-in-Some : goal.loop-lowered-preserved-in-Some
loop-lowered-preserved-in-Some c =
    let xs = c.loop-lowered.lowered.items in
    let ys = c.pop.new.self.items in
    let x = c.in-Some.last in
    let l : c.args.count < length xs = omega arith in
    record {
      within = popped-within c.args.count xs ys x c.in-Some.ensures.items l;
      first = popped-first c.args.count xs ys x c.in-Some.ensures.items l ∙ c.loop-lowered.invariant.first;
      back = popped-back c.args.count xs ys x c.in-Some.ensures.items l c.loop-lowered.table.entries c.write_where.new.table.entries _ c.write_where.ensures c.loop-lowered.invariant.back;
    }
