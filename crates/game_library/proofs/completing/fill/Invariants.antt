use Rattle.game_library.specs.Solving.{IsGrown}
use Rattle.game_library.proofs.Needed.{IsFilledTo}
use Rattle.game_library.proofs.completing.fill.Given as goal

abbrev pub invariant-loop-i : goal.invariant-loop-i
invariant-loop-i g l = record { filled : IsFilledTo g.E.Engine.gives l.file l.marks l.i l.table; grown : IsGrown l.initial.table l.table }
