-- Laws of joined, opened and denied cubes: what they mean, and that they are well numbered and fit, with no other symbols.
use Rattle.std.specs.Prelude.{◌≡◌, ℕ, ◌-◌, ◌≤◌, Contains, All, ◌↔◌, ◌++◌}
use Rattle.classical.specs.Classical.{Exists}
use Rattle.tree_model.specs.Signatures.{Signature}
use Rattle.tree_model.specs.Valuations.{Valuation}
use Rattle.flat_form.specs.declared.cube.Cube.{Cube}
use Rattle.flat_form.specs.Meanings.{Extends, CubeHolds, SomeHolds}
use Rattle.flat_form.specs.Numbering.{IsWellNumbered, CubesOver}
use Rattle.flat_form.specs.Reduced.{IsReduced}
use Rattle.flat_form.specs.Raws.{joined, opened, denied}
use Rattle.flat_form.specs.Fitting.{CubeFits}
use Rattle.flat_form.specs.Symbols.{cube_symbols, cubes_symbols, CubesFit}

-- two cubes over the same free variables joined hold where both do
abbrev pub JoinedMeans : Type 0
JoinedMeans =
    (σ : Signature) (left right : Cube) (e : Valuation σ) → left.free ≡ right.free → IsWellNumbered left
    → CubeHolds e (joined left right) ↔ (CubeHolds e left × CubeHolds e right)

-- an opened cube holds where some values of its last free variables make it hold
abbrev pub OpenedMeans : Type 0
OpenedMeans =
    (σ : Signature) (quantified : ℕ) (cube : Cube) (e : Valuation σ) → quantified ≤ cube.free
    → CubeHolds e (opened quantified cube) ↔ Exists (λ (d : Valuation σ). Extends (cube.free - quantified) e d × CubeHolds d cube)

-- one of the raw cubes of a reduced cube's negation holds where the cube does not
abbrev pub DeniedMeans : Type 0
DeniedMeans = (σ : Signature) (cube : Cube) (e : Valuation σ) → IsReduced cube → SomeHolds e (denied cube) ↔ (¬ CubeHolds e cube)

-- what is made of well numbered cubes is well numbered
pub record RawsAreWellNumbered : Type 0 where
  pub joined : (left right : Cube) → left.free ≡ right.free → IsWellNumbered left → IsWellNumbered right → IsWellNumbered (joined left right)
  pub opened : (quantified : ℕ) (cube : Cube) → quantified ≤ cube.free → IsWellNumbered cube → IsWellNumbered (opened quantified cube)
  pub denied : (cube : Cube) → IsWellNumbered cube → CubesOver cube.free (denied cube)

-- what is made of cubes that fit fits
pub record RawsFit : Type 0 where
  pub joined : (σ : Signature) (left right : Cube) → CubeFits σ left → CubeFits σ right → CubeFits σ (joined left right)
  pub opened : (σ : Signature) (quantified : ℕ) (cube : Cube) → CubeFits σ cube → CubeFits σ (opened quantified cube)
  pub denied : (σ : Signature) (cube : Cube) → CubeFits σ cube → CubesFit σ (denied cube)

-- and has no other symbols
pub record RawsHaveSymbols : Type 0 where
  pub joined : (left right : Cube) → All (Contains (cube_symbols left ++ cube_symbols right)) (cube_symbols (joined left right))
  pub opened : (quantified : ℕ) (cube : Cube) → cube_symbols (opened quantified cube) ≡ cube_symbols cube
  pub denied : (cube : Cube) → All (Contains (cube_symbols cube)) (cubes_symbols (denied cube))
