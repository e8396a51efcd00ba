use Rattle.std.proofs.Common.{ℕ, ◌<◌, get_or}
use Rattle.flat_form.specs.declared.atom.Flat.{Flat}
use Rattle.flat_form.specs.Solved.{variable_of}
use Rattle.flat_form.proofs.solved.ascends.Given as goal

abbrev pub invariant-loop-i : goal.invariant-loop-i
invariant-loop-i l = (j k : ℕ) (d : Flat) → j < k → k < l.i → variable_of (get_or l.b j d) < variable_of (get_or l.b k d)
