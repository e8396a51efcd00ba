-- The variables in the order in which a walk by breadth along terms meets them.
use Rattle.std.specs.Prelude.{◌≡◌, ℕ, ◌+◌, ◌<◌, ◌≤◌, Bool, List, [], ◌∷◌, ◌++◌, length, slice_index, All, Contains, ◌⊎◌, ◌↔◌}
use Rattle.tree_model.specs.declared.tree.Symbol.{Symbol}
use Rattle.flat_form.specs.declared.atom.Flat.{Flat}
use Rattle.flat_form.specs.declared.atom.Flat.TheVariants.{VarTerm}
use Rattle.flat_form.specs.Parts.{Under}
use Rattle.flat_form.specs.FirstOccurrence.{IsArgument, IsBefore, IsNumbered}
use Rattle.lists.specs.Distinct.{IsDistinct}
use Rattle.flat_form.specs.Orders.{new_number, IsRenumbering}
use Rattle.reachability.specs.Flags.{IsSet, left_over}

-- the flags are set for the variables of the order, and tell how many there are
pub record IsState (seen : List Bool) (order : List ℕ) : Type 0 where
  pub seen_is : (v : ℕ) → IsSet seen v ↔ Contains order v
  pub left : left_over seen + length order ≡ length seen
  pub low : All (λ v. v < length seen) order

-- x stands last, unless it is below first or in the order
pub data Enters (first x : ℕ) (old : List ℕ) : List ℕ → Type 0 where
  known : (x < first) ⊎ Contains old x → Enters first x old old
  new : first ≤ x → ¬ Contains old x → Enters first x old (old ++ x ∷ [])

-- so it is for the first j of xs, one after the other
pub data EntersAll (first : ℕ) (xs old : List ℕ) : ℕ → List ℕ → Type 0 where
  none : EntersAll first xs old 0 old
  next : (j : ℕ) (mid order : List ℕ) → EntersAll first xs old j mid → j < length xs → Enters first (slice_index xs j) mid order → EntersAll first xs old (j + 1) order

-- and for the arguments of u's term, where it has one
pub data Visits (first : ℕ) (atoms : List Flat) (u : ℕ) (old : List ℕ) : List ℕ → Type 0 where
  bare : ((symbol : Symbol) (xs : List ℕ) → ¬ Contains atoms (VarTerm u symbol xs)) → Visits first atoms u old old
  term : (symbol : Symbol) (xs : List ℕ) (order : List ℕ) → Contains atoms (VarTerm u symbol xs) → EntersAll first xs old (length xs) order → Visits first atoms u old order

-- what is so when the arguments before argument j of the variable with number p were met
pub record IsMeeting (first count : ℕ) (atoms : List Flat) (order : List ℕ) (p j : ℕ) : Type 0 where
  pub distinct : IsDistinct order
  pub reached : (v : ℕ) → Contains order v → (first ≤ v) × Under first atoms v
  pub hangs : (k : ℕ) → k < length order → (t : ℕ) × (i : ℕ) × (new_number first count order t < first + k)
      × IsBefore (new_number first count order t) i p j × IsArgument atoms t i (slice_index order k)
  pub seen : (u i x : ℕ) → IsBefore (new_number first count order u) i p j → IsArgument atoms u i x → (x < first) ⊎ Contains order x
  pub earlier : (k l u j : ℕ) → k < l → l < length order → IsArgument atoms u j (slice_index order l) → (t : ℕ) × (i : ℕ)
      × (new_number first count order t < first + length order)
      × IsBefore (new_number first count order t) i (new_number first count order u) j × IsArgument atoms t i (slice_index order k)

-- the order has the variables from first on that those below it reach, and new numbers by it are by first occurrence
pub record IsMet (first count : ℕ) (atoms : List Flat) (order : List ℕ) : Type 0 where
  pub distinct : IsDistinct order
  pub within : All (λ v. (first ≤ v) × (v < count)) order
  pub reached : (v : ℕ) → Contains order v ↔ ((first ≤ v) × Under first atoms v)
  pub numbered : (new : List Flat) → IsRenumbering (new_number first count order) (λ (atom : Flat). Unit {0}) atoms new
      → IsNumbered first (first + length order) new
