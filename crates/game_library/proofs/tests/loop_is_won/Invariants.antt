use Rattle.game_library.specs.Entries.{AreRight}
use Rattle.game_library.proofs.tests.loop_is_won.Given as goal

abbrev pub invariant-loop-most : goal.invariant-loop-most
invariant-loop-most g l = AreRight g.E.Engine.gives l.file l.table
