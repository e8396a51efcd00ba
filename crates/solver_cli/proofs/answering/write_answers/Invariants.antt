use Rattle.step_facts.specs.Lists.{IsPlain}
use Rattle.game_library.specs.Entries.{AreRight}
use Rattle.solver_cli.specs.Run.{answers}
use Rattle.solver_cli.proofs.Texts.{Reached}
use Rattle.solver_cli.proofs.answering.write_answers.Given as goal

abbrev pub invariant-statements : goal.invariant-statements
invariant-statements g l = Reached g.O.Sink.writes g.O.Sink.taken g.O.Sink.faults answers l.file l.place l.fn.out l.out × AreRight IsPlain l.file l.table
