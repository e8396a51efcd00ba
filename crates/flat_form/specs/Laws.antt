-- Every meaning is stable: what is not ruled out holds, so each reads as in classical logic. And what fits a signature
-- is what has its root symbols alone.
use Rattle.std.specs.Prelude.{ℕ, List, ◌↔◌}
use Rattle.classical.specs.Classical.{IsStable}
use Rattle.tree_model.specs.Signatures.{Signature}
use Rattle.tree_model.specs.Valuations.{Valuation}
use Rattle.flat_form.specs.declared.atom.Flat.{Flat}
use Rattle.flat_form.specs.declared.cube.Part.{Part}
use Rattle.flat_form.specs.declared.cube.Cube.{Cube}
use Rattle.flat_form.specs.Meanings.{AtomHolds, BasicHolds, PartFails, AllFail, CubeHolds, SomeHolds, NormHolds, NormsHold}
use Rattle.flat_form.specs.Normals.{Norm, Norms}
use Rattle.flat_form.specs.Fitting.{BasicFits, CubeFits, NormFits}
use Rattle.flat_form.specs.Symbols.{basic_symbols, cube_symbols, norm_symbols, AreRoots}

-- what atoms and conjunctions of atoms mean
pub record BasicsAreStable : Type 0 where
  pub atom : (σ : Signature) (e : Valuation σ) (atom : Flat) → IsStable (AtomHolds e atom)
  pub basic : (σ : Signature) (e : Valuation σ) (basic : List Flat) → IsStable (BasicHolds e basic)

-- what cubes, their parts and lists of cubes mean
pub record CubesAreStable : Type 0 where
  pub part : (σ : Signature) (n : ℕ) (e : Valuation σ) (part : Part) → IsStable (PartFails n e part)
  pub parts : (σ : Signature) (n : ℕ) (e : Valuation σ) (parts : List Part) → IsStable (AllFail n e parts)
  pub cube : (σ : Signature) (e : Valuation σ) (cube : Cube) → IsStable (CubeHolds e cube)
  pub cubes : (σ : Signature) (e : Valuation σ) (cubes : List Cube) → IsStable (SomeHolds e cubes)

-- what negated conjunctions mean
pub record NormalsAreStable : Type 0 where
  pub one : (σ : Signature) (n : ℕ) (e : Valuation σ) (x : Norm) → IsStable (NormHolds n e x)
  pub all : (σ : Signature) (n : ℕ) (e : Valuation σ) (xs : Norms) → IsStable (NormsHold n e xs)

-- what fits is what has root symbols alone
pub record FitsBySymbols : Type 0 where
  pub basic : (σ : Signature) (basic : List Flat) → BasicFits σ basic ↔ AreRoots σ (basic_symbols basic)
  pub cube : (σ : Signature) (cube : Cube) → CubeFits σ cube ↔ AreRoots σ (cube_symbols cube)
  pub norm : (σ : Signature) (x : Norm) → NormFits σ x ↔ AreRoots σ (norm_symbols x)
