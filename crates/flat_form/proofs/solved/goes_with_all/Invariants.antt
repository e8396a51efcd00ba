use Rattle.std.proofs.Common.{take}
use Rattle.std.specs.Prelude.{All}
use Rattle.flat_form.specs.Beside.{GoesWith}
use Rattle.flat_form.proofs.solved.goes_with_all.Given as goal

abbrev pub invariant-loop-other : goal.invariant-loop-other
invariant-loop-other l = All (GoesWith l.atom) (take l.other-index l.b)
