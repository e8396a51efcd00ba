-- What atoms add to a solved conjunction, their base. Over the empty base this is their solved form.
use Rattle.std.specs.Prelude.{◌≡◌, ℕ, ◌<◌, ◌≤◌, List, [], length, slice_index, Contains}
use Rattle.tree_model.specs.declared.tree.Symbol.{Symbol}
use Rattle.flat_form.specs.declared.atom.Flat.{Flat}
use Rattle.flat_form.specs.declared.atom.Flat.TheVariants.{VarVar, VarTerm, Finite}
use Rattle.flat_form.specs.Classes.{Class, Reached, Unsolvable, HasNoTerm}
use Rattle.flat_form.specs.Solved.{Ascends, IsOpen, HasTerm}

module _ (base atoms : List Flat) where
  -- the head of v's class: its least variable that has a term in the base, else its least root
  pub data IsHead (v h : ℕ) : Type 0 where
    by_term : Class atoms v h → HasTerm base h → ((w : ℕ) → Class atoms v w → HasTerm base w → h ≤ w) → IsHead v h
    by_root : ((w : ℕ) → Class atoms v w → ¬ HasTerm base w) → Class atoms v h → IsOpen base h
        → ((w : ℕ) → Class atoms v w → IsOpen base w → h ≤ w) → IsHead v h

  -- v = h, where v is a root and another variable h is its head
  pub record AddsEqual (v h : ℕ) : Type 0 where
    pub bare : IsOpen base v
    pub head : IsHead v h
    pub differ : ¬ (v ≡ h)

  -- v = f(heads), where v is a root and its own head, and its class has a term f(..)
  pub record AddsTerm (v : ℕ) (symbol : Symbol) (ys : List ℕ) : Type 0 where
    pub bare : IsOpen base v
    pub head : IsHead v v
    pub variable : ℕ
    pub xs : List ℕ
    pub one_class : Class atoms v variable
    pub stands : Contains atoms (VarTerm variable symbol xs)
    pub as_many : length ys ≡ length xs
    pub heads : (i : ℕ) → i < length xs → IsHead (slice_index xs i) (slice_index ys i)

  -- finite(v), where v is a root and its own head, and its class has no term, must be finite, and is not so by the base
  pub record AddsFinite (v : ℕ) : Type 0 where
    pub bare : IsOpen base v
    pub head : IsHead v v
    pub no_term : HasNoTerm atoms v
    pub reached : Reached atoms v
    pub new : (r : ℕ) → Class atoms v r → ¬ Contains base (Finite r)

  -- the atom is one of those that are added
  abbrev pub Adds : Flat → Type 0
  Adds (VarVar v h) = AddsEqual v h
  Adds (VarTerm v symbol ys) = AddsTerm v symbol ys
  Adds (Finite v) = AddsFinite v

  -- the atoms can be solved, and what they add to the base is listed in ascending order of variables
  pub record IsAdded (added : List Flat) : Type 0 where
    pub solvable : ¬ Unsolvable atoms
    pub ascending : Ascends added
    pub each : (atom : Flat) → Contains added atom → Adds atom
    pub all : (atom : Flat) → Adds atom → Contains added atom

-- the solved form of the atoms
abbrev pub IsSolvedForm : List Flat → List Flat → Type 0
IsSolvedForm atoms form = IsAdded [] atoms form
