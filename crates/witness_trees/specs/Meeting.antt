-- Variables in the order in which they are met.
use Rattle.std.specs.Prelude.{◌≡◌, ℕ, ◌<◌, List, ◌++◌, length, map, slice_index, All, Contains}
use Rattle.formula_ast.specs.Collecting.{Collects}
use Rattle.flat_form.specs.Orders.{place_of}

-- those that were met, of so many that there are
pub record Meeting : Type 0 where
  pub order : List ℕ
  pub count : ℕ

-- the table has the place of each that was met
pub record AreMet (order places : List ℕ) : Type 0 where
  pub within : (k : ℕ) → k < length order → slice_index order k < length places
  pub back : (k : ℕ) → k < length order → slice_index places (slice_index order k) ≡ k

-- the order is the old one with more behind it
abbrev pub Grows : List ℕ → List ℕ → Type 0
Grows old new = (more : List ℕ) × (new ≡ old ++ more)

-- the variables were met one after the other, those that were new then stand behind the old ones, and these are their places
pub record AreEntered (old new vs places : List ℕ) : Type 0 where
  pub collects : Collects old new vs
  pub grows : Grows old new
  pub met : All (Contains new) vs
  pub places_are : places ≡ map (place_of new) vs
