-- Lists of cubes come to lists with no other symbols, whatever signature these fit.
use Rattle.std.specs.Prelude.{ℕ, List, [], ◌++◌, flat_map, Contains, All}
use Rattle.flat_form.specs.declared.cube.Cube.{Cube}
use Rattle.flat_form.specs.Normals.{Norm}
use Rattle.flat_form.specs.Symbols.{cubes_symbols, norm_symbols}
use Rattle.step_facts.specs.Lists.{TakesSteps, IsAnd, IsOr, IsNot, IsExists, IsPlain, IsJoined, IsClosed}

pub record ListsHaveSymbols : Type 0 where
  pub steps : (raws out : List Cube) → TakesSteps [] raws out → All (Contains (cubes_symbols raws)) (cubes_symbols out)
  pub both : (left right out : List Cube) → IsAnd left right out → All (Contains (cubes_symbols left ++ cubes_symbols right)) (cubes_symbols out)
  pub either : (left right out : List Cube) → IsOr left right out → All (Contains (cubes_symbols left ++ cubes_symbols right)) (cubes_symbols out)
  pub some : (quantified : ℕ) (cubes out : List Cube) → IsExists quantified cubes out → All (Contains (cubes_symbols cubes)) (cubes_symbols out)
  pub none : (n : ℕ) (cubes out : List Cube) → IsNot n cubes out → All (Contains (cubes_symbols cubes)) (cubes_symbols out)
  pub joined : (first : List Cube) (lists : List (List Cube)) (out : List Cube) → IsJoined first lists out
      → All (Contains (cubes_symbols first ++ flat_map cubes_symbols lists)) (cubes_symbols out)
  pub closed : (n bound : ℕ) (cubes out : List Cube) → IsClosed n bound cubes out → All (Contains (cubes_symbols cubes)) (cubes_symbols out)
  pub plain : (n : ℕ) (x : Norm) (out : List Cube) → IsPlain n x out → All (Contains (norm_symbols x)) (cubes_symbols out)
