use Rattle.std.proofs.Common.{ℕ, ◌<◌, ◌≢◌}
use Rattle.formula_printer.specs.Writing.{text_at}
use Rattle.formula_printer.proofs.checks.is_new.Given as goal

abbrev pub invariant-loop-j : goal.invariant-loop-j
invariant-loop-j l = (j : ℕ) → j < l.j → text_at l.names j ≢ text_at l.names l.i
