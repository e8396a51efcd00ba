use Rattle.std.proofs.Common.{take}
use Rattle.step_facts.specs.Lists.{IsPlain}
use Rattle.game_library.specs.Entries.{AreRight}
use Rattle.solver_cli.specs.Counts.{Count}
use Rattle.solver_cli.proofs.counting.count.Given as goal

abbrev pub invariant-statements : goal.invariant-statements
invariant-statements l = Count l.file (take l.place l.file.solves) l.counts × AreRight IsPlain l.file l.table
