-- Laws of new numbers by an order without repeats.
use Rattle.std.specs.Prelude.{◌≡◌, ℕ, ◌+◌, ◌-◌, ◌<◌, ◌≤◌, cond, ltb, List, length, slice_index, Contains, ◌↔◌, ◌⊎◌}
use Rattle.lists.specs.Distinct.{IsDistinct}
use Rattle.flat_form.specs.Orders.{new_number}

-- an order of all numbers from free up to scope is as long as there are such numbers
abbrev pub FullOrderIsAsLong : Type 0
FullOrderIsAsLong =
    (free count : ℕ) (order : List ℕ) → IsDistinct order → ((v : ℕ) → Contains order v ↔ ((free ≤ v) × (v < free + count))) → length order ≡ count

-- the old number of a new one
abbrev pub old_number : ℕ → ℕ → List ℕ → ℕ → ℕ
old_number free scope order w =
    cond (ltb w free) w (cond (ltb w (free + length order)) (slice_index order (w - free)) (scope + (w - (free + length order))))

-- it takes new numbers back, where the variables below scope are free or stand in the order
abbrev pub OldNumberIsBack : Type 0
OldNumberIsBack =
    (free scope : ℕ) (order : List ℕ) (v : ℕ) → free ≤ scope → ((v < free) ⊎ (scope ≤ v) ⊎ ((free ≤ v) × (v < scope) × Contains order v))
    → old_number free scope order (new_number free scope order v) ≡ v
