-- What is left to look at on walks along terms.
use Rattle.std.specs.Prelude.{ℕ, ◌<◌}
use Rattle.basic_solver.specs.declared.grounding.Visit.{Visit}
use Rattle.basic_solver.specs.declared.grounding.Visit.TheVariants.{Enter, Leave}

-- the name of one of so many classes, or the place of one of n atoms
abbrev pub IsVisit : ℕ → ℕ → Visit → Type 0
IsVisit count n (Enter name) = name < count
IsVisit count n (Leave i) = i < n
