use Rattle.std.proofs.Common.{◌≡◌, ◌+◌, length, arith}
use Rattle.solver_cli.specs.Language.{Answered}
use Rattle.step_facts.specs.Lists.{IsPlain}
use Rattle.game_library.proofs.Grown.{none_right}
use Rattle.solver_cli.specs.Run.{answers}
use Rattle.solver_cli.proofs.Texts.{begun, stepped, ended, fewer, was_cut}
use Rattle.solver_cli.proofs.answering.write_answers.Goals as goal

pub statements-init : goal.statements-init
statements-init g c = (
  begun g.O.Sink.writes g.O.Sink.taken g.O.Sink.faults answers c.args.file.now c.args.out.now,
  rw c.new-table.ensures (none_right IsPlain c.args.file.now),
)

pub returns-in-Err-clause-cut : goal.returns-in-Err-clause-cut
returns-in-Err-clause-cut g c is =
    let right : Answered c.args.file.now (c.statements.place + 1) c.as_bytes.result.now = rw c.as_bytes.ensures.value c.in-Ok.ensures.answered in
    was_cut g.O.Sink.writes g.O.Sink.taken g.O.Sink.faults answers c.args.file.now c.statements.place c.args.out.now c.statements.out c.write_whole.new.out c.as_bytes.result.now c.statements.invariant.0 (omega arith) right c.in-Err.ensures.cut

pub statements-preserved : goal.statements-preserved
statements-preserved g c =
    let right : Answered c.args.file.now (c.statements.place + 1) c.as_bytes.result.now = rw c.as_bytes.ensures.value c.in-Ok.ensures.answered in (
      stepped g.O.Sink.writes g.O.Sink.taken g.O.Sink.faults answers c.args.file.now c.statements.place c.args.out.now c.statements.out c.write_whole.new.out c.as_bytes.result.now c.statements.invariant.0 (omega arith) right c.in-Ok-write_whole.ensures.whole c.write_whole.ensures.count,
      c.answer.ensures.table,
    )

pub returns-clause-all : goal.returns-clause-all
returns-clause-all g c =
    let last : c.statements.place ≡ length c.args.file.now.solves = omega arith in
    ended g.O.Sink.writes g.O.Sink.taken g.O.Sink.faults answers c.args.file.now c.statements.place c.args.out.now c.statements.out c.statements.invariant.0 last

pub returns-in_default-clause-fewer : goal.returns-in_default-clause-fewer
returns-in_default-clause-fewer g c is =
    fewer g.O.Sink.writes g.O.Sink.taken g.O.Sink.faults answers c.args.file.now c.statements.place c.args.out.now c.statements.out c.statements.invariant.0 (omega arith)
