-- A grouped cube's basic in its last numbers.
use Rattle.std.specs.Prelude.{◌≡◌, ℕ, ◌+◌, List, [], ◌++◌, length, Contains, ◌↔◌}
use Rattle.lists.specs.Distinct.{IsDistinct}
use Rattle.flat_form.specs.declared.atom.Flat.{Flat}
use Rattle.flat_form.specs.declared.cube.Cube.{Cube}
use Rattle.flat_form.specs.FirstOccurrence.{IsNumbered}
use Rattle.flat_form.specs.Numbering.{IsWellNumbered}
use Rattle.flat_form.specs.Orders.{new_number, IsRenumbering}
use Rattle.flat_form.specs.Solved.{variable_of}
use Rattle.flat_form.specs.Steps.{IsGrouped, IsOuter}

-- the cube is what the first steps made of a raw one
abbrev pub WasGrouped : Cube → List ℕ → Type 0
WasGrouped cube idle = (raw : Cube) × IsWellNumbered raw × IsGrouped raw cube idle

-- the order has the outer variables that are not idle, and the basic is the cube's without idle variables, where the
-- others are numbered by the order, which is that of first occurrence
pub record IsOrdered (cube : Cube) (idle order : List ℕ) (basic : List Flat) : Type 0 where
  pub distinct : IsDistinct order
  pub order_is : (v : ℕ) → Contains order v ↔ (IsOuter cube.free cube.outer v × (¬ Contains idle v))
  pub basic_is : IsRenumbering (new_number cube.free (cube.free + cube.outer) (order ++ idle)) (λ (atom : Flat). ¬ Contains idle (variable_of atom))
      cube.basic basic
  pub numbered : IsNumbered cube.free (cube.free + length order) basic

-- no variable is idle, the basic is the cube's, and each variable keeps its number
pub record KeepsNumbers (cube : Cube) (idle order : List ℕ) (basic : List Flat) : Type 0 where
  pub none_idle : idle ≡ []
  pub basic_is : basic ≡ cube.basic
  pub number : (v : ℕ) → new_number cube.free (cube.free + cube.outer) order v ≡ v
