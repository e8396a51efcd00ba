-- What is noted of each name: a table of flags.
use Rattle.std.specs.Prelude.{◌≡◌, ℕ, ◌<◌, Bool, true, false, cond, List, length, slice_index_or, slice_set, sum_by, All, Contains}
use Rattle.tree_model.specs.declared.tree.Symbol.{Symbol}
use Rattle.flat_form.specs.declared.atom.Flat.{Flat}
use Rattle.flat_form.specs.declared.atom.Flat.TheVariants.{VarVar, VarTerm, Finite}
use Rattle.flat_form.specs.Classes.{Reached, Walk}
use Rattle.flat_facts.specs.Names.{IsClosed}
use Rattle.basic_solver.specs.Names.{name_in, IsSound}

-- each name is a variable of the table
abbrev pub AreNames : List ℕ → Type 0
AreNames names = (v : ℕ) → v < length names → name_in names v < length names

-- two terms of one class have one symbol and number of arguments
abbrev pub Agrees : List ℕ → Flat → Flat → Type 0
Agrees names (VarVar u w) b = Unit {0}
Agrees names (VarTerm u symbol xs) (VarVar v w) = Unit {0}
Agrees names (VarTerm u symbol xs) (VarTerm v other ys) = name_in names u ≡ name_in names v → (symbol ≡ other) × (length xs ≡ length ys)
Agrees names (VarTerm u symbol xs) (Finite v) = Unit {0}
Agrees names (Finite u) b = Unit {0}

-- each two atoms agree
abbrev pub AllAgree : List ℕ → List Flat → Type 0
AllAgree names atoms = All (λ atom. All (Agrees names atom) atoms) atoms

-- the names are those of the classes of the atoms, in which no two terms clash
pub record AreClasses (names : List ℕ) (atoms : List Flat) : Type 0 where
  pub sound : IsSound atoms names
  pub closed : IsClosed atoms (name_in names)
  pub agree : All (λ atom. All (Agrees names atom) atoms) atoms

-- the flag of v's name is set
abbrev pub IsSet : List ℕ → List Bool → ℕ → Type 0
IsSet names flags v = slice_index_or flags (name_in names v) false ≡ true

-- how many flags are not set
abbrev pub left_over : List Bool → ℕ
left_over flags = sum_by (λ flag. cond flag 0 1) flags

-- where the atom gives a variable a term, its class has no flag any more
abbrev pub without_term : List ℕ → Flat → List Bool → List Bool
without_term names (VarVar u r) flags = flags
without_term names (VarTerm u symbol xs) flags = slice_set flags (name_in names u) false
without_term names (Finite u) flags = flags

-- done classes: their terms lead to done ones alone, no walk from them comes round, and one that is not done has a term
pub record IsGrounded (names : List ℕ) (atoms : List Flat) (done : List Bool) : Type 0 where
  pub size : length done ≡ length names
  pub down : (u : ℕ) (symbol : Symbol) (xs : List ℕ) → Contains atoms (VarTerm u symbol xs) → IsSet names done u → All (IsSet names done) xs
  pub no_round : (v : ℕ) → IsSet names done v → ¬ Walk atoms v v
  pub term : (v : ℕ) → v < length names → ¬ IsSet names done v
      → (u : ℕ) × (symbol : Symbol) × (xs : List ℕ) × Contains atoms (VarTerm u symbol xs) × (name_in names u ≡ name_in names v)

-- a class that is not done has an argument that is not
abbrev pub IsStuck : List ℕ → List Bool → Flat → Type 0
IsStuck names done (VarVar u r) = Unit {0}
IsStuck names done (VarTerm u symbol xs) = All (IsSet names done) xs → IsSet names done u
IsStuck names done (Finite u) = Unit {0}

-- and so for each term
abbrev pub IsFinished : List ℕ → List Flat → List Bool → Type 0
IsFinished names atoms done = IsGrounded names atoms done × All (IsStuck names done) atoms

-- the classes with a flag are reached
abbrev pub AreReached : List ℕ → List Flat → List Bool → Type 0
AreReached names atoms marks = (v : ℕ) → IsSet names marks v → Reached atoms v

-- a finite atom's class has a flag, and from a class with a flag its arguments have one
abbrev pub IsPassedOn : List ℕ → List Bool → Flat → Type 0
IsPassedOn names marks (VarVar u r) = Unit {0}
IsPassedOn names marks (VarTerm u symbol xs) = IsSet names marks u → All (IsSet names marks) xs
IsPassedOn names marks (Finite u) = IsSet names marks u
