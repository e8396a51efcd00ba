-- Variables in three lists.
use Rattle.std.specs.Prelude.{◌≡◌, ℕ, ◌<◌, ◌≤◌, Bool, List, Contains, ◌↔◌}
use Rattle.std.specs.List.Sorted.{IsStrictlyIncreasing}
use Rattle.flat_form.specs.declared.atom.Flat.{Flat}
use Rattle.flat_form.specs.declared.atom.Flat.TheVariants.{VarVar, VarTerm, Finite}
use Rattle.reachability.specs.Flags.{IsSet}

-- v is left of the equation
abbrev pub IsLeft : ℕ → Flat → Type 0
IsLeft v (VarVar u r) = u ≡ v
IsLeft v (VarTerm u symbol xs) = u ≡ v
IsLeft v (Finite u) = ⊥

-- the variables with a flag are those left of equations
pub record AreLeft (atoms : List Flat) (flags : List Bool) : Type 0 where
  pub from : (v : ℕ) → IsSet flags v → (atom : Flat) × Contains atoms atom × IsLeft v atom
  pub all : (v : ℕ) (atom : Flat) → Contains atoms atom → IsLeft v atom → IsSet flags v

-- the numbers from free on and below k that have P, in ascending order
pub record AreThose (P : ℕ → Type 0) (free k : ℕ) (those : List ℕ) : Type 0 where
  pub ascending : IsStrictlyIncreasing those
  pub is : (v : ℕ) → Contains those v ↔ ((free ≤ v) × (v < k) × P v)

-- the variables from free on and below k: needed with a mark, determined with none and left of an equation, and idle
pub record AreSorted (free k : ℕ) (marks lefts : List Bool) (needed idle determined : List ℕ) : Type 0 where
  pub needed_are : AreThose (IsSet marks) free k needed
  pub idle_are : AreThose (λ v. (¬ IsSet marks v) × (¬ IsSet lefts v)) free k idle
  pub determined_are : AreThose (λ v. (¬ IsSet marks v) × IsSet lefts v) free k determined
