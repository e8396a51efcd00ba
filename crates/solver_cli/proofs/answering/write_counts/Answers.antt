use Rattle.std.proofs.Common.{refl, arith}
use Rattle.solver_cli.specs.Counts.{IsCountsText}
use Rattle.solver_cli.specs.Run.{counts}
use Rattle.solver_cli.proofs.Texts.{begun, stepped, ended, fewer, was_cut}
use Rattle.solver_cli.proofs.answering.write_counts.Goals as goal

pub returns-in_default-clause-fewer : goal.returns-in_default-clause-fewer
returns-in_default-clause-fewer g c is =
    fewer g.O.Sink.writes g.O.Sink.taken g.O.Sink.faults counts c.args.file.now 0 c.args.out.now c.args.out.now
    (begun g.O.Sink.writes g.O.Sink.taken g.O.Sink.faults counts c.args.file.now c.args.out.now) (omega arith)

pub returns-in-Ok-write_whole-clause-all : goal.returns-in-Ok-write_whole-clause-all
returns-in-Ok-write_whole-clause-all g c =
    let right : IsCountsText c.args.file.now c.as_bytes.result.now = rw c.as_bytes.ensures.value c.in-Ok.ensures in
    ended g.O.Sink.writes g.O.Sink.taken g.O.Sink.faults counts c.args.file.now 1 c.args.out.now c.write_whole.new.out
    (stepped g.O.Sink.writes g.O.Sink.taken g.O.Sink.faults counts c.args.file.now 0 c.args.out.now c.args.out.now c.write_whole.new.out c.as_bytes.result.now
    (begun g.O.Sink.writes g.O.Sink.taken g.O.Sink.faults counts c.args.file.now c.args.out.now) (omega arith) right c.in-Ok-write_whole.ensures.whole c.write_whole.ensures.count) refl

pub returns-clause-cut : goal.returns-clause-cut
returns-clause-cut g c is =
    let right : IsCountsText c.args.file.now c.as_bytes.result.now = rw c.as_bytes.ensures.value c.in-Ok.ensures in
    was_cut g.O.Sink.writes g.O.Sink.taken g.O.Sink.faults counts c.args.file.now 0 c.args.out.now c.args.out.now c.write_whole.new.out c.as_bytes.result.now
    (begun g.O.Sink.writes g.O.Sink.taken g.O.Sink.faults counts c.args.file.now c.args.out.now) (omega arith) right c.in-Err.ensures.cut
