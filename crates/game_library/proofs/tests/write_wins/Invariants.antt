use Rattle.game_library.specs.Entries.{AreRight}
use Rattle.game_library.proofs.tests.write_wins.Given as goal

abbrev pub invariant-loop-number : goal.invariant-loop-number
invariant-loop-number g l = AreRight g.E.Engine.gives l.file l.table
