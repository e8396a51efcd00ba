use Rattle.std.proofs.Common.{◌≡◌, take}
use Rattle.std.specs.Prelude.{map}
use Rattle.finiteness.specs.declared.walks.Turn.{Turn}
use Rattle.finiteness.proofs.walks.path.Given as goal

abbrev pub invariant-loop-turn : goal.invariant-loop-turn
invariant-loop-turn l = l.path ≡ map (λ (turn : Turn). turn.argument) (take l.turn-index l.walk)
