-- How the program ends.
use Rattle.std.specs.Prelude.{◌≡◌, ◌≢◌, ℕ, List, Option, Result}
use Rattle.io_edge.specs.declared.failed.Failed.{Failed}
use Rattle.solver_cli.specs.declared.status.Status.{Status}
use Rattle.solver_cli.specs.declared.status.Status.TheVariants.{Done, Refused}
use Rattle.solver_cli.specs.Lines.{line_of, exit_of}
use Rattle.solver_cli.specs.Writing.{WritesLine}

-- it exits with the number of a status: err took the line of this status, and nothing where the number is 0
pub record Ends {E : Type 0} (writes : E → List ℕ → Result ℕ Failed → E → Type 0) (taken : E → Option (List ℕ)) (faults : E → ℕ) (old : E) (number : ℕ) (new : E) : Type 0 where
  pub status : Status
  pub numbered : number ≡ exit_of status
  pub silent : status ≡ Done → new ≡ old
  pub line : status ≢ Refused → WritesLine writes taken faults old (line_of status) new
