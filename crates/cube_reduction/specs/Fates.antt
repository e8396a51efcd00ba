-- What becomes of the parts of a grouped cube whose variables keep their numbers.
use Rattle.std.specs.Prelude.{◌≡◌, ℕ, Bool, true, false, List, [], ◌++◌, Contains}
use Rattle.flat_form.specs.declared.atom.Flat.{Flat}
use Rattle.flat_form.specs.declared.cube.Part.{Part}
use Rattle.flat_form.specs.Meanings.{HasNone}
use Rattle.flat_form.specs.Steps.{SettlesTo, Settles, IsImplied, NumbersInner, Finishes}
use Rattle.numbering.specs.Finishing.{Joins}
use Rattle.cube_reduction.specs.declared.fates.Fate.{Fate}
use Rattle.cube_reduction.specs.declared.fates.Fate.TheVariants.{Drops, Implied, Stays, Changes}

-- The part is settled, unless it cannot hold beside the base, and then is implied where nothing is left. Else it is
-- settled again, unless it cannot hold then, and its inner variables are numbered.
pub data Becomes (m : ℕ) (base : List Flat) (part : Part) : Fate → Type 0 where
  drops : HasNone (base ++ part.basic) → Becomes m base part Drops
  drops_then : (first : Part) → SettlesTo m base part first → ¬ (first.basic ≡ []) → HasNone (base ++ first.basic) → Becomes m base part Drops
  implied : IsImplied m base part → Becomes m base part Implied
  stays : (first second : Part) → SettlesTo m base part first → ¬ (first.basic ≡ []) → SettlesTo m base first second → NumbersInner m second part
      → Becomes m base part Stays
  changes : (first second new : Part) → SettlesTo m base part first → ¬ (first.basic ≡ []) → SettlesTo m base first second → NumbersInner m second new
      → Becomes m base part (Changes new)

-- what becomes of the list so far by a part's fate, and whether the next part follows
abbrev pub IsTaken : Part → Fate → List Part → List Part → Bool → Type 0
IsTaken part Drops old new goes_on = (goes_on ≡ true) × (new ≡ old)
IsTaken part Implied old new goes_on = goes_on ≡ false
IsTaken part Stays old new goes_on = (goes_on ≡ true) × Joins part old new
IsTaken part (Changes other) old new goes_on = (goes_on ≡ true) × Joins other old new

-- what the parts come to together: none of them is implied
pub record Stay (m : ℕ) (base : List Flat) (parts out : List Part) : Type 0 where
  pub first : List Part
  pub second : List Part
  pub settled : Settles m base parts first
  pub some_atom : (part : Part) → Contains first part → ¬ (part.basic ≡ [])
  pub again : Settles m base first second
  pub finished : Finishes m [] second out
