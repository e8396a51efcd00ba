use Rattle.game_library.specs.Entries.{AreRight}
use Rattle.game_library.proofs.tests.write_moves.Given as goal

abbrev pub invariant-loop-from : goal.invariant-loop-from
invariant-loop-from g l = AreRight g.E.Engine.gives l.file l.table
