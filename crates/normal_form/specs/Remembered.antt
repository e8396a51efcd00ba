-- Cubes that are kept, and what joins of them came to.
use Rattle.std.specs.Prelude.{◌≡◌, ℕ, List, Option, Some, None, slice_get}
use Rattle.flat_form.specs.declared.cube.Cube.{Cube}
use Rattle.flat_form.specs.Raws.{joined}
use Rattle.flat_form.specs.Steps.{Outcome}
use Rattle.normal_form.specs.declared.memory.Join.{Join}

-- each cube that stood at some place stands there still
abbrev pub KeepsAll : List Cube → List Cube → Type 0
KeepsAll old new = (place : ℕ) (cube : Cube) → slice_get old place ≡ Some cube → slice_get new place ≡ Some cube

-- the steps on this raw cube come to the cube at this place, or to none
abbrev pub ComesTo : List Cube → Cube → Option ℕ → Type 0
ComesTo kept raw None = Outcome raw None
ComesTo kept raw (Some place) = (cube : Cube) × (slice_get kept place ≡ Some cube) × Outcome raw (Some cube)

-- both cubes of the join are kept, and this is what the join came to
abbrev pub IsRight : List Cube → Join → Type 0
IsRight kept join = (left right : Cube) × (slice_get kept join.left ≡ Some left) × (slice_get kept join.right ≡ Some right) × ComesTo kept (joined left right) join.outcome
