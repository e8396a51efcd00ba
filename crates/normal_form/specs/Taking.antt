-- Steps that are taken on raw cubes one after the other.
use Rattle.std.specs.Prelude.{◌≡◌, List, [], ◌∷◌, ◌++◌, Contains, ◌⊎◌}
use Rattle.flat_form.specs.declared.cube.Cube.{Cube}
use Rattle.step_facts.specs.Lists.{TakesSteps}

-- the steps on these raw cubes lead from the list so far to the next one
abbrev pub Continues : List Cube → List Cube → List Cube → Type 0
Continues done raws next = (rest out : List Cube) → TakesSteps next rest out → TakesSteps done (raws ++ rest) out

-- the cube is one of those so far, or stands last
abbrev pub KeepsOne : List Cube → Cube → List Cube → Type 0
KeepsOne done cube next = (Contains done cube × (next ≡ done)) ⊎ ((¬ Contains done cube) × (next ≡ done ++ cube ∷ []))
