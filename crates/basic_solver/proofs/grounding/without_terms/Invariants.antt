use Rattle.std.proofs.Common.{ℕ, ◌≡◌, ◌<◌, length, take}
use Rattle.std.specs.Prelude.{All}
use Rattle.basic_solver.specs.Flags.{IsSet}
use Rattle.basic_solver.proofs.Cleared.{IsCleared, HasNamedTerm}
use Rattle.basic_solver.proofs.grounding.without_terms.Given as goal

abbrev pub invariant-loop-i : goal.invariant-loop-i
invariant-loop-i l = record {
  size : length l.done.items ≡ length l.names;
  cleared : All (IsCleared l.names l.done.items) (take l.i l.atoms);
  term : (v : ℕ) → v < length l.names → ¬ IsSet l.names l.done.items v → HasNamedTerm l.names l.atoms v;
}
