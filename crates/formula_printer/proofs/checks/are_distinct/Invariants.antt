use Rattle.std.proofs.Common.{ℕ, ◌<◌, ◌≢◌}
use Rattle.formula_printer.specs.Writing.{text_at}
use Rattle.formula_printer.proofs.checks.are_distinct.Given as goal

abbrev pub invariant-loop-i : goal.invariant-loop-i
invariant-loop-i l = (i : ℕ) → i < l.i → (j : ℕ) → j < i → text_at l.names j ≢ text_at l.names i
