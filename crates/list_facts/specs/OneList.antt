-- Lists of cubes come to one list.
use Rattle.std.specs.Prelude.{◌≡◌, ℕ, List, []}
use Rattle.tree_model.specs.Signatures.{Signature}
use Rattle.flat_form.specs.declared.cube.Cube.{Cube}
use Rattle.flat_form.specs.Normals.{Norm}
use Rattle.flat_form.specs.Fitting.{NormFits}
use Rattle.flat_form.specs.Symbols.{CubesFit}
use Rattle.step_facts.specs.Lists.{TakesSteps, IsAnd, IsOr, IsNot, IsExists, IsPlain}

-- Lists of cubes whose symbols fit a signature come to one list: by the steps, by conjunction, disjunction, negation and
-- quantifiers, and so does each negated conjunction that fits.
pub record ListsAreOne : Type 0 where
  pub steps : (σ : Signature) (raws one other : List Cube) → CubesFit σ raws → TakesSteps [] raws one → TakesSteps [] raws other → one ≡ other
  pub both : (σ : Signature) (left right one other : List Cube) → CubesFit σ left → CubesFit σ right → IsAnd left right one → IsAnd left right other → one ≡ other
  pub either : (left right one other : List Cube) → IsOr left right one → IsOr left right other → one ≡ other
  pub none : (σ : Signature) (n : ℕ) (cubes one other : List Cube) → CubesFit σ cubes → IsNot n cubes one → IsNot n cubes other → one ≡ other
  pub some : (σ : Signature) (n : ℕ) (cubes one other : List Cube) → CubesFit σ cubes → IsExists n cubes one → IsExists n cubes other → one ≡ other
  pub plain : (σ : Signature) (n : ℕ) (x : Norm) (one other : List Cube) → NormFits σ x → IsPlain n x one → IsPlain n x other → one ≡ other
