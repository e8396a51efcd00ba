-- For each class a term of it: a table with the place of one atom for each name.
use Rattle.std.specs.Prelude.{◌≡◌, ℕ, ◌<◌, List, length, slice_get, slice_index_or, slice_set, Option, Some, None, All}
use Rattle.flat_form.specs.declared.atom.Flat.{Flat}
use Rattle.flat_form.specs.declared.atom.Flat.TheVariants.{VarVar, VarTerm, Finite}
use Rattle.basic_solver.specs.Names.{name_in, IsFollowed, IsEquated}
use Rattle.basic_solver.specs.Flags.{Agrees}

-- where the atom gives a variable a term, its place is noted for the variable's name
abbrev pub with_term : List ℕ → Flat → ℕ → List (Option ℕ) → List (Option ℕ)
with_term names (VarVar u r) i terms = terms
with_term names (VarTerm u symbol xs) i terms = slice_set terms (name_in names u) (Some i)
with_term names (Finite u) i terms = terms

-- the table has a place for this name, and there stands the atom
abbrev pub IsTermAt : List (Option ℕ) → List Flat → ℕ → Flat → Type 0
IsTermAt terms atoms name atom = (j : ℕ) × (slice_index_or terms name None ≡ Some j) × (slice_get atoms j ≡ Some atom)

-- the atom gives a term to a variable with this name
abbrev pub GivesTerm : List ℕ → ℕ → Flat → Type 0
GivesTerm names name (VarVar u r) = ⊥
GivesTerm names name (VarTerm u symbol xs) = name_in names u ≡ name
GivesTerm names name (Finite u) = ⊥

-- where the atom gives a variable a term, there is a place for its name
abbrev pub IsNoted : List ℕ → List (Option ℕ) → Flat → Type 0
IsNoted names terms (VarVar u r) = Unit {0}
IsNoted names terms (VarTerm u symbol xs) = ¬ (slice_index_or terms (name_in names u) None ≡ None)
IsNoted names terms (Finite u) = Unit {0}

-- each place is one of n
abbrev pub HavePlaces : ℕ → List (Option ℕ) → Type 0
HavePlaces n terms = (name j : ℕ) → slice_index_or terms name None ≡ Some j → j < n

-- at each place stands a term of the class, and each class with a term has a place
pub record AreTerms (names : List ℕ) (atoms : List Flat) (terms : List (Option ℕ)) : Type 0 where
  pub size : length terms ≡ length names
  pub places : HavePlaces (length atoms) terms
  pub stands : (name : ℕ) (atom : Flat) → IsTermAt terms atoms name atom → GivesTerm names name atom
  pub noted : All (IsNoted names terms) atoms

-- the atom agrees with the term that is noted for its class
abbrev pub AgreesWithNoted : List ℕ → List (Option ℕ) → List Flat → Flat → Type 0
AgreesWithNoted names terms atoms (VarVar u r) = Unit {0}
AgreesWithNoted names terms atoms (VarTerm u symbol xs) =
    (b : Flat) → IsTermAt terms atoms (name_in names u) b → Agrees names (VarTerm u symbol xs) b
AgreesWithNoted names terms atoms (Finite u) = Unit {0}

-- the names follow the atom and the term that is noted for its class
abbrev pub FollowsNoted : List ℕ → List (Option ℕ) → List Flat → Flat → Type 0
FollowsNoted names terms atoms (VarVar u r) = Unit {0}
FollowsNoted names terms atoms (VarTerm u symbol xs) =
    (b : Flat) → IsTermAt terms atoms (name_in names u) b → IsFollowed names (VarTerm u symbol xs) b
FollowsNoted names terms atoms (Finite u) = Unit {0}

-- the names follow the atom, and the term that is noted for its class
abbrev pub IsServed : List ℕ → List (Option ℕ) → List Flat → Flat → Type 0
IsServed names terms atoms atom = IsEquated names atom × FollowsNoted names terms atoms atom
