-- What holds of each symbol of atoms, cubes and negated conjunctions.
use Rattle.std.specs.Prelude.{All, flat_map}
use Rattle.std.proofs.Common.{ℕ, List}
use Rattle.std.proofs.lemmas.List.Elements.{All-nil, All-append, All-weaker}
use Rattle.tree_model.specs.declared.tree.Symbol.{Symbol}
use Rattle.flat_form.specs.declared.atom.Flat.{Flat}
use Rattle.flat_form.specs.declared.cube.Part.{Part}
use Rattle.flat_form.specs.declared.cube.Cube.{Cube}
use Rattle.flat_form.specs.Normals.{Norm, Norms, norm, none, also}
use Rattle.flat_form.specs.Symbols.{atom_symbols, basic_symbols, cube_symbols, norm_symbols, norms_symbols}
use Rattle.flattening.proofs.EachItem.{all_left, all_right, all_flat, flat_all}

abbrev part_symbols : Part → List (Symbol × ℕ)
part_symbols part = basic_symbols part.basic

module _ (P : Symbol × ℕ → Type 0) where
  -- P holds of the atom's symbol
  abbrev pub AtomEach : Flat → Type 0
  AtomEach atom = All P (atom_symbols atom)

  -- of each symbol of the conjunction
  abbrev pub BasicEach : List Flat → Type 0
  BasicEach basic = All AtomEach basic

  abbrev mutual
    -- and of a negated conjunction
    pub NormEach : Norm → Type 0
    NormEach (norm bound basic parts) = BasicEach basic × NormsEach parts

    pub NormsEach : Norms → Type 0
    NormsEach none = Unit {0}
    NormsEach (also part rest) = NormEach part × NormsEach rest

  mutual
    pub norm_all : (x : Norm) → NormEach x → All P (norm_symbols x)
    norm_all (norm bound basic parts) each =
        All-append P (basic_symbols basic) (norms_symbols parts) (all_flat P atom_symbols basic each.0) (norms_all parts each.1)

    norms_all : (xs : Norms) → NormsEach xs → All P (norms_symbols xs)
    norms_all none each = All-nil P
    norms_all (also part rest) each = All-append P (norm_symbols part) (norms_symbols rest) (norm_all part each.0) (norms_all rest each.1)

  mutual
    pub all_norm : (x : Norm) → All P (norm_symbols x) → NormEach x
    all_norm (norm bound basic parts) all = (
      flat_all P atom_symbols basic (all_left P (basic_symbols basic) (norms_symbols parts) all),
      all_norms parts (all_right P (basic_symbols basic) (norms_symbols parts) all),
    )

    all_norms : (xs : Norms) → All P (norms_symbols xs) → NormsEach xs
    all_norms none all = tt
    all_norms (also part rest) all =
        (all_norm part (all_left P (norm_symbols part) (norms_symbols rest) all), all_norms rest (all_right P (norm_symbols part) (norms_symbols rest) all))

  pub cube_all : (cube : Cube) → BasicEach cube.basic → All (λ (part : Part). BasicEach part.basic) cube.parts → All P (cube_symbols cube)
  cube_all cube basic parts =
      All-append P (basic_symbols cube.basic) (flat_map part_symbols cube.parts) (all_flat P atom_symbols cube.basic basic)
      (all_flat P part_symbols cube.parts (All-weaker (λ (part : Part). BasicEach part.basic) (λ part. All P (part_symbols part)) (λ part each. all_flat P atom_symbols part.basic each) cube.parts parts))

  pub all_cube_basic : (cube : Cube) → All P (cube_symbols cube) → BasicEach cube.basic
  all_cube_basic cube all = flat_all P atom_symbols cube.basic (all_left P (basic_symbols cube.basic) (flat_map part_symbols cube.parts) all)

  pub all_cube_parts : (cube : Cube) → All P (cube_symbols cube) → All (λ (part : Part). BasicEach part.basic) cube.parts
  all_cube_parts cube all =
      All-weaker (λ part. All P (part_symbols part)) (λ (part : Part). BasicEach part.basic) (λ part each. flat_all P atom_symbols part.basic each) cube.parts
      (flat_all P part_symbols cube.parts (all_right P (basic_symbols cube.basic) (flat_map part_symbols cube.parts) all))
