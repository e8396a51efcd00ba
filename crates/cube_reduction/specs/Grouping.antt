-- Cubes with their variables in another order, of which the last ones move into the parts.
use Rattle.std.specs.Prelude.{◌≡◌, ℕ, ◌+◌, ◌<◌, ◌≤◌, List, map}
use Rattle.flat_form.specs.declared.atom.Flat.{Flat}
use Rattle.flat_form.specs.declared.cube.Cube.{Cube}
use Rattle.flat_form.specs.Orders.{new_number, IsRenumbering}
use Rattle.flat_form.specs.Solved.{variable_of}
use Rattle.cube_reduction.specs.Numbers.{moved_into}

-- the new number of a variable of the cube by the order
abbrev pub number_by : Cube → List ℕ → ℕ → ℕ
number_by raw order = new_number raw.free (raw.free + raw.outer) order

-- The cube with its outer variables in this order and this basic: the first ones stay outer, and the others, so many,
-- become inner variables of each part, with their atoms.
pub record IsRegrouped (raw : Cube) (form : List Flat) (order : List ℕ) (kept more : ℕ) (mid : Cube) : Type 0 where
  pub moved : List Flat
  pub free_is : mid.free ≡ raw.free
  pub outer_is : mid.outer ≡ kept
  pub rest_is : IsRenumbering (number_by raw order) (λ atom. number_by raw order (variable_of atom) < raw.free + kept) form mid.basic
  pub moved_is : IsRenumbering (number_by raw order) (λ atom. raw.free + kept ≤ number_by raw order (variable_of atom)) form moved
  pub parts_are : mid.parts ≡ map (moved_into (number_by raw order) more moved) raw.parts
