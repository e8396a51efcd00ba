-- Tables with a flag for each variable.
use Rattle.std.specs.Prelude.{◌≡◌, ℕ, ◌<◌, Bool, true, false, cond, List, length, slice_index_or, sum_by, All, ◌↔◌}
use Rattle.flat_form.specs.declared.atom.Flat.{Flat}
use Rattle.flat_form.specs.declared.atom.Flat.TheVariants.{VarVar, VarTerm, Finite}
use Rattle.flat_form.specs.Parts.{Under}

-- the flag of v is set
abbrev pub IsSet : List Bool → ℕ → Type 0
IsSet flags v = slice_index_or flags v false ≡ true

-- how many flags are not set
abbrev pub left_over : List Bool → ℕ
left_over flags = sum_by (λ flag. cond flag 0 1) flags

-- the variables below first have a flag, and those with one are reached along terms from them
pub record AreUnder (first : ℕ) (atoms : List Flat) (marks : List Bool) : Type 0 where
  pub firsts : (v : ℕ) → v < first → IsSet marks v
  pub under : (v : ℕ) → IsSet marks v → Under first atoms v

-- where the variable of a term has a flag, the arguments have one
abbrev pub IsPassedOn : List Bool → Flat → Type 0
IsPassedOn marks (VarVar u r) = Unit {0}
IsPassedOn marks (VarTerm u symbol xs) = IsSet marks u → All (IsSet marks) xs
IsPassedOn marks (Finite u) = Unit {0}

-- a flag for each of count variables; those are set that are reached along terms from the variables below first
pub record AreReached (first count : ℕ) (atoms : List Flat) (marks : List Bool) : Type 0 where
  pub size : length marks ≡ count
  pub is : (v : ℕ) → IsSet marks v ↔ Under first atoms v
