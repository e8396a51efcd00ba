use Rattle.std.proofs.Common.{take}
use Rattle.std.specs.Prelude.{All}
use Rattle.flat_form.specs.Beside.{GoesWith}
use Rattle.flat_form.proofs.solved.all_go_together.Given as goal

abbrev pub invariant-loop-atom : goal.invariant-loop-atom
invariant-loop-atom l = All (λ atom. All (GoesWith atom) l.b) (take l.atom-index l.b)
