-- Fresh values, under which all parts fail.
use Rattle.std.specs.Prelude.{◌≡◌, ℕ, ◌+◌, ◌<◌, List, [], Contains, All, Some}
use Rattle.classical.specs.Classical.{Exists}
use Rattle.tree_model.specs.declared.tree.Symbol.TheVariants.{Further}
use Rattle.tree_model.specs.Signatures.{Signature}
use Rattle.tree_model.specs.Trees.{at, IsFinite}
use Rattle.tree_model.specs.Valuations.{Valuation}
use Rattle.flat_form.specs.declared.atom.Flat.{Flat}
use Rattle.flat_form.specs.declared.atom.Flat.TheVariants.{Finite}
use Rattle.flat_form.specs.declared.cube.Part.{Part}
use Rattle.flat_form.specs.declared.cube.Cube.{Cube}
use Rattle.flat_form.specs.Fitting.{BasicFits, CubeFits}
use Rattle.flat_form.specs.Meanings.{BasicHolds, AllFail, CubeHolds}
use Rattle.flat_form.specs.Numbering.{BasicOver}
use Rattle.flat_form.specs.Parts.{IsPartOver}
use Rattle.flat_form.specs.Solved.{IsOpen, IsSolved}
use Rattle.flat_form.specs.Reduced.{IsReduced}
use Rattle.flat_form.specs.Steps.{Settles}
use Rattle.flat_form.specs.Symbols.{cube_symbols}

-- each root of the basic, below the bound, has a value whose root is a further symbol of its own, which does not stand
-- in the cube; and the value is infinite unless the basic says that it is finite
pub record HasFreshValues {σ : Signature} (cube : Cube) (d : Valuation σ) (index : ℕ → ℕ) : Type 0 where
  pub root : (v : ℕ) → v < cube.free + cube.outer → IsOpen cube.basic v → (n : ℕ) × (at (d v).graph [] ≡ Some (Further (index v), n))
  pub endless : (v : ℕ) → v < cube.free + cube.outer → IsOpen cube.basic v → ¬ Contains cube.basic (Finite v) → ¬ IsFinite (d v).graph
  pub own : (v w : ℕ) → v < cube.free + cube.outer → IsOpen cube.basic v → w < cube.free + cube.outer → IsOpen cube.basic w
      → index v ≡ index w → v ≡ w
  pub unused : (v n : ℕ) → v < cube.free + cube.outer → IsOpen cube.basic v → ¬ Contains (cube_symbols cube) (Further (index v), n)

-- under such values all parts of a reduced cube fail
abbrev pub FreshValuesFail : Type 0
FreshValuesFail =
    (σ : Signature) (cube : Cube) (d : Valuation σ) (index : ℕ → ℕ) → IsReduced cube → BasicHolds d cube.basic → HasFreshValues cube d index
    → AllFail (cube.free + cube.outer) d cube.parts

-- the parts of a reduced cube have the shape of parts
abbrev pub ReducedIsOver : Type 0
ReducedIsOver = (cube : Cube) → IsReduced cube → All (λ (part : Part). IsPartOver (cube.free + cube.outer) cube.basic part.basic) cube.parts

-- a reduced cube has a solution
abbrev pub ReducedHasSolution : Type 0
ReducedHasSolution = (σ : Signature) (cube : Cube) → IsReduced cube → CubeFits σ cube → Exists (λ (e : Valuation σ). CubeHolds e cube)

-- parts with the shape of parts, and an atom each, all fail in some solution of the base
abbrev pub PartsOverHaveSolution : Type 0
PartsOverHaveSolution =
    (σ : Signature) (m : ℕ) (base : List Flat) (parts : List Part) → IsSolved base → BasicFits σ base
    → All (λ (part : Part). IsPartOver m base part.basic × (¬ (part.basic ≡ []))) parts
    → Exists (λ (e : Valuation σ). BasicHolds e base × AllFail m e parts)

-- and so do parts that are settled, none of them to nothing
abbrev pub SettledHasSolution : Type 0
SettledHasSolution =
    (σ : Signature) (m : ℕ) (base : List Flat) (old new : List Part) → IsSolved base → BasicOver m base → BasicFits σ base
    → All (λ (part : Part). BasicFits σ part.basic) old → Settles m base old new
    → ((part : Part) → Contains new part → ¬ (part.basic ≡ []))
    → Exists (λ (e : Valuation σ). BasicHolds e base × AllFail m e old × AllFail m e new)
