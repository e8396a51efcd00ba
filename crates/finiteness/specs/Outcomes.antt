-- What the answer for a variable of a graph says.
use Rattle.std.specs.Prelude.{List, ℕ}
use Rattle.finiteness.specs.declared.spreading.Outcome.{Outcome}
use Rattle.finiteness.specs.declared.spreading.Outcome.TheVariants.{Done, Loop}

-- where the answer is a loop, its path has P
abbrev pub IfLoop : Outcome → (List ℕ → Type 0) → Type 0
IfLoop Done P = Unit {0}
IfLoop (Loop path) P = P path

-- where the leaves are marked, this holds
abbrev pub IfDone : Outcome → Type 0 → Type 0
IfDone Done P = P
IfDone (Loop path) P = Unit {0}
