-- Atoms with new numbers, read off in the new order.
use Rattle.std.specs.Prelude.{◌≡◌, ℕ, ◌+◌, ◌<◌, ◌≤◌, List, [], ◌∷◌, ◌++◌, length, slice_index, Contains}
use Rattle.flat_form.specs.declared.atom.Flat.{Flat}
use Rattle.flat_form.specs.Solved.{variable_of, Ascends}
use Rattle.flat_form.specs.Parts.{renumbered}
use Rattle.flat_form.specs.Orders.{new_number}

-- the table has the new number of each variable below count
pub record AreNumbers (first count : ℕ) (order numbers : List ℕ) : Type 0 where
  pub size : length numbers ≡ count
  pub each : (v : ℕ) → v < count → slice_index numbers v ≡ new_number first count order v

-- so it is but for the variables of the order from place i on
pub record AreNoted (first count : ℕ) (order : List ℕ) (i : ℕ) (numbers : List ℕ) : Type 0 where
  pub size : length numbers ≡ count
  pub low : (v : ℕ) → v < first → v < count → slice_index numbers v ≡ v
  pub noted : (k : ℕ) → k < i → slice_index numbers (slice_index order k) ≡ first + k
  pub others : (v : ℕ) → first ≤ v → v < count → ¬ Contains order v → slice_index numbers v ≡ first + length order

-- u's atom, where it has one, is listed last with new numbers
pub data ListsAt (g : ℕ → ℕ) (atoms : List Flat) (u : ℕ) (old : List Flat) : List Flat → Type 0 where
  without : ((atom : Flat) → Contains atoms atom → ¬ (variable_of atom ≡ u)) → ListsAt g atoms u old old
  with : (atom : Flat) → Contains atoms atom → variable_of atom ≡ u → ListsAt g atoms u old (old ++ renumbered g atom ∷ [])

-- the atoms whose variables get numbers below p are listed
pub record IsListedTo (first count : ℕ) (order : List ℕ) (p : ℕ) (old new : List Flat) : Type 0 where
  pub ascending : Ascends new
  pub each : (atom : Flat) → Contains new atom → (other : Flat) × Contains old other × (new_number first count order (variable_of other) < p)
      × (atom ≡ renumbered (new_number first count order) other)
  pub all : (other : Flat) → Contains old other → new_number first count order (variable_of other) < p
      → Contains new (renumbered (new_number first count order) other)
