-- Classes by names: one number for each variable, the same for all of a class.
use Rattle.std.specs.Prelude.{ℕ, ◌≡◌, ◌<◌, ◌≤◌, List, length, slice_index, Contains, ◌↔◌}
use Rattle.tree_model.specs.declared.tree.Symbol.{Symbol}
use Rattle.flat_form.specs.declared.atom.Flat.{Flat}
use Rattle.flat_form.specs.declared.atom.Flat.TheVariants.{VarVar, VarTerm}
use Rattle.flat_form.specs.Classes.{Class}

-- the names agree where an atom equates variables, at the arguments of equal terms, and at terms with equal arguments
pub record IsClosed (atoms : List Flat) (name : ℕ → ℕ) : Type 0 where
  pub equal : (u v : ℕ) → Contains atoms (VarVar u v) → name u ≡ name v
  pub arguments : (u v : ℕ) (symbol : Symbol) (xs ys : List ℕ) → Contains atoms (VarTerm u symbol xs) → Contains atoms (VarTerm v symbol ys)
      → length xs ≡ length ys → name u ≡ name v → (i : ℕ) → i < length xs → name (slice_index xs i) ≡ name (slice_index ys i)
  pub terms : (u v : ℕ) (symbol : Symbol) (xs ys : List ℕ) → Contains atoms (VarTerm u symbol xs) → Contains atoms (VarTerm v symbol ys)
      → length xs ≡ length ys → ((i : ℕ) → i < length xs → name (slice_index xs i) ≡ name (slice_index ys i)) → name u ≡ name v

-- closed names that are in the classes of their variables are the same exactly within a class
abbrev pub NamesAreClasses : Type 0
NamesAreClasses =
    (atoms : List Flat) (name : ℕ → ℕ) → IsClosed atoms name → ((v : ℕ) → Class atoms v (name v))
    → (u v : ℕ) → Class atoms u v ↔ name u ≡ name v

-- and where no name is greater than its variable, each is the least variable of its class
abbrev pub NamesAreLeast : Type 0
NamesAreLeast =
    (atoms : List Flat) (name : ℕ → ℕ) → IsClosed atoms name → ((v : ℕ) → name v ≤ v)
    → (v w : ℕ) → Class atoms v w → name v ≤ w
