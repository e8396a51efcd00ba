-- Counts of calls and of failures.
use Rattle.std.specs.Prelude.{ℕ, ◌+◌, ◌-◌, ◌^◌, min, Result, is_err, if◌then◌else◌}
use Rattle.io_edge.specs.declared.failed.Failed.{Failed}

-- the next value of a count that stands still at the end of a u64
abbrev pub next : ℕ → ℕ
next n = min (n + 1) (2 ^ 64 - 1)

-- a count of failures after a call with this answer: it rises at a failure, and only there
abbrev pub after_answer : {A : Type 0} → ℕ → Result A Failed → ℕ
after_answer faults result = if is_err result then next faults else faults
