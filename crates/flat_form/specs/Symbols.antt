-- The symbols of atoms, cubes and negated conjunctions, each with its number of arguments.
use Rattle.std.specs.Prelude.{ℕ, List, [], ◌∷◌, ◌++◌, length, All, flat_map}
use Rattle.tree_model.specs.declared.tree.Symbol.{Symbol}
use Rattle.tree_model.specs.Signatures.{Signature, IsRoot}
use Rattle.flat_form.specs.declared.atom.Flat.{Flat}
use Rattle.flat_form.specs.declared.atom.Flat.TheVariants.{VarVar, VarTerm, Finite}
use Rattle.flat_form.specs.declared.cube.Part.{Part}
use Rattle.flat_form.specs.declared.cube.Cube.{Cube}
use Rattle.flat_form.specs.Normals.{Norm, Norms, norm, none, also}
use Rattle.flat_form.specs.Fitting.{CubeFits}

-- the symbol of an atom, if it has one
abbrev pub atom_symbols : Flat → List (Symbol × ℕ)
atom_symbols (VarVar u v) = []
atom_symbols (VarTerm u symbol arguments) = (symbol, length arguments) ∷ []
atom_symbols (Finite u) = []

-- the symbols of the atoms, in order
abbrev pub basic_symbols : List Flat → List (Symbol × ℕ)
basic_symbols basic = flat_map atom_symbols basic

-- those of a cube's basic and of its parts
abbrev pub cube_symbols : Cube → List (Symbol × ℕ)
cube_symbols cube = basic_symbols cube.basic ++ flat_map (λ (part : Part). basic_symbols part.basic) cube.parts

-- those of the cubes
abbrev pub cubes_symbols : List Cube → List (Symbol × ℕ)
cubes_symbols cubes = flat_map cube_symbols cubes

abbrev mutual
  -- those of a negated conjunction and of its parts
  pub norm_symbols : Norm → List (Symbol × ℕ)
  norm_symbols (norm bound basic parts) = basic_symbols basic ++ norms_symbols parts

  pub norms_symbols : Norms → List (Symbol × ℕ)
  norms_symbols none = []
  norms_symbols (also part rest) = norm_symbols part ++ norms_symbols rest

-- each is a root symbol over the signature
abbrev pub AreRoots : Signature → List (Symbol × ℕ) → Type 0
AreRoots σ symbols = All (λ (one : Symbol × ℕ). IsRoot σ one.0 one.1) symbols

-- each cube fits
abbrev pub CubesFit : Signature → List Cube → Type 0
CubesFit σ cubes = All (CubeFits σ) cubes
