-- Where the atoms of variables stand.
use Rattle.std.specs.Prelude.{◌≡◌, ℕ, ◌<◌, List, length, slice_get, slice_index_or, Option, Some, None}
use Rattle.flat_form.specs.declared.atom.Flat.{Flat}
use Rattle.flat_form.specs.Solved.{variable_of}

-- for each variable the place of an atom of it, where it has one among the first n
pub record ArePlaces (n : ℕ) (atoms : List Flat) (places : List (Option ℕ)) : Type 0 where
  pub found : (v i : ℕ) → slice_index_or places v None ≡ Some i → (i < length atoms) × ((atom : Flat) → slice_get atoms i ≡ Some atom → variable_of atom ≡ v)
  pub none : (v : ℕ) → v < length places → slice_index_or places v None ≡ None
      → (i : ℕ) (atom : Flat) → i < n → slice_get atoms i ≡ Some atom → ¬ (variable_of atom ≡ v)
