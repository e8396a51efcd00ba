-- What the answer for a variable says.
use Rattle.std.specs.Prelude.{List, ℕ}
use Rattle.finiteness.specs.declared.spreading.ListSpread.{ListSpread}
use Rattle.finiteness.specs.declared.spreading.ListSpread.TheVariants.{Leaves, Loop}

-- where the answer is a loop, its path has P
abbrev pub IfLoop : ListSpread → (List ℕ → Type 0) → Type 0
IfLoop (Leaves list) P = Unit {0}
IfLoop (Loop path) P = P path

-- where the answer is leaves, their list has P
abbrev pub IfLeaves : ListSpread → (List ℕ → Type 0) → Type 0
IfLeaves (Leaves list) P = P list
IfLeaves (Loop path) P = Unit {0}
