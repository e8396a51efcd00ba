-- Reduced cubes: what is left when each part says only what its cube does not, with numbers by first occurrence.
use Rattle.std.specs.Prelude.{◌≡◌, ℕ, ◌+◌, ◌<◌, List, [], Contains, All, ◌⊎◌}
use Rattle.tree_model.specs.declared.tree.Symbol.{Symbol}
use Rattle.flat_form.specs.declared.atom.Flat.{Flat}
use Rattle.flat_form.specs.declared.atom.Flat.TheVariants.{VarVar, VarTerm, Finite}
use Rattle.flat_form.specs.declared.cube.Part.{Part}
use Rattle.flat_form.specs.declared.cube.Cube.{Cube}
use Rattle.flat_form.specs.Numbering.{IsWellNumbered}
use Rattle.flat_form.specs.Solved.{variable_of, Ascends, IsOpen, HasTerm, IsSolved}
use Rattle.lists.specs.Distinct.{IsDistinct}
use Rattle.flat_form.specs.FirstOccurrence.{IsNumbered}

-- The part, behind m variables, says something that the basic does not say, and says it in one way only.
pub record IsReducedPart (m : ℕ) (basic : List Flat) (part : Part) : Type 0 where
  pub some_atom : ¬ (part.basic ≡ [])
  pub ascending : Ascends part.basic
  pub left_open : (atom : Flat) → Contains part.basic atom → IsOpen basic (variable_of atom)
  pub equal : (u h : ℕ) → Contains part.basic (VarVar u h) → (u < m) × ((h < u) ⊎ HasTerm basic h) × ((w : ℕ) → ¬ Contains part.basic (VarVar h w))
  pub unmarked : (u : ℕ) → Contains part.basic (Finite u) → ¬ Contains basic (Finite u)
  pub numbered : IsNumbered m (m + part.inner) part.basic
  pub apart : (u v : ℕ) (symbol : Symbol) (xs : List ℕ) → Contains part.basic (VarTerm u symbol xs)
      → (¬ Contains basic (VarTerm v symbol xs)) × (Contains part.basic (VarTerm v symbol xs) → u ≡ v)

-- the cube is well numbered and solved, its outer variables are numbered by first occurrence, and its parts are
-- reduced and distinct
pub record IsReduced (cube : Cube) : Type 0 where
  pub well_numbered : IsWellNumbered cube
  pub solved : IsSolved cube.basic
  pub numbered : IsNumbered cube.free (cube.free + cube.outer) cube.basic
  pub parts : All (IsReducedPart (cube.free + cube.outer) cube.basic) cube.parts
  pub distinct : IsDistinct cube.parts
