-- What is noted of a base: which variables have an equation there, and which classes it says are finite.
use Rattle.std.specs.Prelude.{◌≡◌, ℕ, Bool, true, false, List, length, slice_index_or, slice_set, All, ◌↔◌}
use Rattle.flat_form.specs.declared.atom.Flat.{Flat}
use Rattle.flat_form.specs.declared.atom.Flat.TheVariants.{VarVar, VarTerm, Finite}
use Rattle.basic_solver.specs.declared.listing.Notes.{Notes}
use Rattle.basic_solver.specs.Names.{name_in}
use Rattle.basic_solver.specs.Outcomes.{LeavesOpen, IsNoFinite}

-- where the atom is an equation of a variable, this has a flag
abbrev pub with_bound : Flat → List Bool → List Bool
with_bound (VarVar u r) bound = slice_set bound u true
with_bound (VarTerm u symbol xs) bound = slice_set bound u true
with_bound (Finite u) bound = bound

-- the flags of the variables that are left of an equation of the base
abbrev pub AreBound : List Flat → List Bool → Type 0
AreBound base bound = (v : ℕ) → (slice_index_or bound v false ≡ false) ↔ All (LeavesOpen v) base

-- where the atom says that a variable is finite, its class has a flag
abbrev pub with_said : List ℕ → Flat → List Bool → List Bool
with_said names (VarVar u r) said = said
with_said names (VarTerm u symbol xs) said = said
with_said names (Finite u) said = slice_set said (name_in names u) true

-- the flags of the names of the variables that are finite by the base
abbrev pub AreSaid : List ℕ → List Flat → List Bool → Type 0
AreSaid names base said = (v : ℕ) → (slice_index_or said v false ≡ false) ↔ All (IsNoFinite names v) base

-- the tables have an entry for each of n names
pub record AreSized (n : ℕ) (notes : Notes) : Type 0 where
  pub bound : length notes.bound.items ≡ n
  pub said : length notes.said.items ≡ n
  pub marks : length notes.marks.items ≡ n
