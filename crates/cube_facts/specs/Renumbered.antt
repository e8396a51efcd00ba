-- What new numbers for the variables of a cube keep.
use Rattle.std.specs.Prelude.{◌≡◌, ℕ, ◌+◌, ◌<◌, ◌≤◌, List, map, Contains, ◌↔◌}
use Rattle.tree_model.specs.Signatures.{Signature, Alike}
use Rattle.tree_model.specs.Valuations.{Valuation}
use Rattle.flat_form.specs.declared.atom.Flat.{Flat}
use Rattle.flat_form.specs.declared.cube.Part.{Part}
use Rattle.flat_form.specs.declared.cube.Cube.{Cube}
use Rattle.flat_form.specs.Meanings.{CubeHolds}
use Rattle.flat_form.specs.Parts.{variables_of, renumbered, IsPartOver}

-- v is a variable of one of the atoms
abbrev pub StandsIn : List Flat → ℕ → Type 0
StandsIn atoms v = (atom : Flat) × Contains atoms atom × Contains (variables_of atom) v

-- v is a variable of the cube's basic or of one of its parts
pub data StandsInCube (cube : Cube) (v : ℕ) : Type 0 where
  in_basic : StandsIn cube.basic v → StandsInCube cube v
  in_part : (part : Part) → Contains cube.parts part → StandsIn part.basic v → StandsInCube cube v

-- g takes the new number f v back, and it is below k exactly where v is below m
pub record MovesNumber (m k : ℕ) (f g : ℕ → ℕ) (v : ℕ) : Type 0 where
  pub back : g (f v) ≡ v
  pub low : v < m → f v < k
  pub high : m ≤ v → k ≤ f v

-- New numbers f, which g takes back, for all variables of a cube: free ones become free ones of the new cube, outer ones
-- outer ones, and inner ones inner ones. How many inner variables a part has is left open.
pub record IsRenumberedCube (f g : ℕ → ℕ) (old new : Cube) : Type 0 where
  pub free : (v : ℕ) → StandsInCube old v → MovesNumber old.free new.free f g v
  pub moves : (v : ℕ) → StandsInCube old v → MovesNumber (old.free + old.outer) (new.free + new.outer) f g v
  pub basic_is : (atom : Flat) → Contains new.basic atom ↔ ((other : Flat) × Contains old.basic other × (atom ≡ renumbered f other))
  pub parts_are : map (λ (part : Part). part.basic) new.parts ≡ map (λ (part : Part). map (renumbered f) part.basic) old.parts

-- such cubes hold together, where the free variables that stand in the old one have the same values
abbrev pub RenumberedMeans : Type 0
RenumberedMeans =
    (σ : Signature) (old new : Cube) (f g : ℕ → ℕ) (d e : Valuation σ) → IsRenumberedCube f g old new
    → ((v : ℕ) → v < old.free → StandsInCube old v → Alike (d v) (e (f v)))
    → CubeHolds d old ↔ CubeHolds e new

-- new numbers that are one to one on what stands in base and part keep the shape of the part
abbrev pub ShapeRenumbered : Type 0
ShapeRenumbered =
    (m k : ℕ) (f g : ℕ → ℕ) (base part new_base new_part : List Flat)
    → ((v : ℕ) → StandsIn base v → g (f v) ≡ v)
    → ((v : ℕ) → StandsIn part v → MovesNumber m k f g v)
    → ((atom : Flat) → Contains new_base atom → (other : Flat) × Contains base other × (atom ≡ renumbered f other))
    → ((atom : Flat) → Contains new_part atom ↔ ((other : Flat) × Contains part other × (atom ≡ renumbered f other)))
    → IsPartOver m base part → IsPartOver k new_base new_part
