use Rattle.std.proofs.Common.{ℕ, ◌≡◌, ◌<◌}
use Rattle.std.specs.Prelude.{slice_index}
use Rattle.basic_solver.specs.Names.{name_in}
use Rattle.basic_solver.proofs.names.are_alike.Given as goal

abbrev pub invariant-loop-i : goal.invariant-loop-i
invariant-loop-i l = (k : ℕ) → k < l.i → name_in l.names (slice_index l.xs k) ≡ name_in l.names (slice_index l.ys k)
