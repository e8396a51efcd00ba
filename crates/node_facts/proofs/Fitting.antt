-- Lists of cubes fit by their symbols.
use Rattle.std.specs.Prelude.{Contains, All, flat_map}
use Rattle.std.proofs.Common.{ℕ, List, [], ◌∷◌, ◌++◌}
use Rattle.std.proofs.lemmas.List.Elements.{All-contains, All-append, All-head, All-nil, All-tail, All-weaker, Contains-append_left, Contains-append_right}
use Rattle.tree_model.specs.declared.tree.Symbol.{Symbol}
use Rattle.tree_model.specs.Signatures.{Signature, IsRoot}
use Rattle.flat_form.specs.declared.cube.Cube.{Cube}
use Rattle.flat_form.specs.Fitting.{CubeFits}
use Rattle.flat_form.specs.Symbols.{cube_symbols, cubes_symbols, AreRoots, CubesFit}
use Rattle.flat_form.proofs.Symbols.{each_of, flat_in, flat_from, fits_by_symbols}

-- each symbol of these stands among those
abbrev pub Within : List (Symbol × ℕ) → List (Symbol × ℕ) → Type 0
Within those these = All (Contains those) these

pub within_trans : (xs ys zs : List (Symbol × ℕ)) → Within xs ys → Within ys zs → Within xs zs
within_trans xs ys zs a b = All-weaker (Contains ys) (Contains xs) (λ p i. All-contains (Contains xs) ys p a i) zs b

pub within_left : (xs ys : List (Symbol × ℕ)) → Within (xs ++ ys) xs
within_left xs ys = each_of (Contains (xs ++ ys)) xs (λ p i. Contains-append_left xs ys p i)

pub within_right : (xs ys : List (Symbol × ℕ)) → Within (xs ++ ys) ys
within_right xs ys = each_of (Contains (xs ++ ys)) ys (λ p i. Contains-append_right xs ys p i)

pub within_both : (zs xs ys : List (Symbol × ℕ)) → Within zs xs → Within zs ys → Within zs (xs ++ ys)
within_both zs xs ys a b = All-append (Contains zs) xs ys a b

-- each cube's symbols
pub within_each : (zs : List (Symbol × ℕ)) (cubes : List Cube) → ((cube : Cube) → Contains cubes cube → Within zs (cube_symbols cube)) → Within zs (cubes_symbols cubes)
within_each zs cubes each = each_of (Contains zs) (cubes_symbols cubes) (λ p i.
    let (cube, stands, j) = flat_from cube_symbols cubes p i in All-contains (Contains zs) (cube_symbols cube) p (each cube stands) j)

pub within_one : (cubes : List Cube) (cube : Cube) → Contains cubes cube → Within (cubes_symbols cubes) (cube_symbols cube)
within_one cubes cube stands = each_of (Contains (cubes_symbols cubes)) (cube_symbols cube) (λ p i. flat_in cube_symbols cubes cube p stands i)

module _ (σ : Signature) where
  abbrev Root : Symbol × ℕ → Type 0
  Root p = IsRoot σ p.0 p.1

  pub roots_of : (cubes : List Cube) → CubesFit σ cubes → AreRoots σ (cubes_symbols cubes)
  roots_of cubes fit = each_of Root (cubes_symbols cubes) (λ p i.
      let (cube, stands, j) = flat_from cube_symbols cubes p i in
      All-contains Root (cube_symbols cube) p ((fits_by_symbols.cube σ cube).0 (All-contains (CubeFits σ) cubes cube fit stands)) j)

  pub roots_within : (xs ys : List (Symbol × ℕ)) → Within xs ys → AreRoots σ xs → AreRoots σ ys
  roots_within xs ys within all = All-weaker (Contains xs) Root (λ p i. All-contains Root xs p all i) ys within

  pub fit_of : (cubes : List Cube) → AreRoots σ (cubes_symbols cubes) → CubesFit σ cubes
  fit_of cubes all = each_of (CubeFits σ) cubes (λ cube stands.
      (fits_by_symbols.cube σ cube).1 (roots_within (cubes_symbols cubes) (cube_symbols cube) (within_one cubes cube stands) all))

  pub fit_within : (xs : List (Symbol × ℕ)) (cubes : List Cube) → Within xs (cubes_symbols cubes) → AreRoots σ xs → CubesFit σ cubes
  fit_within xs cubes within all = fit_of cubes (roots_within xs (cubes_symbols cubes) within all)

  pub roots_of_lists : (lists : List (List Cube)) → All (CubesFit σ) lists → AreRoots σ (flat_map cubes_symbols lists)
  roots_of_lists [] all = All-nil Root
  roots_of_lists (list ∷ lists) all =
      All-append Root (cubes_symbols list) (flat_map cubes_symbols lists) (roots_of list (All-head (CubesFit σ) list lists all))
      (roots_of_lists lists (All-tail (CubesFit σ) list lists all))
