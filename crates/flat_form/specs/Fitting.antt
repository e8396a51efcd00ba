-- When the symbols of flat conjunctions, cubes and negated conjunctions are root symbols over a signature.
use Rattle.std.specs.Prelude.{List, length, All}
use Rattle.tree_model.specs.Signatures.{Signature, IsRoot}
use Rattle.flat_form.specs.declared.atom.Flat.{Flat}
use Rattle.flat_form.specs.declared.atom.Flat.TheVariants.{VarVar, VarTerm, Finite}
use Rattle.flat_form.specs.declared.cube.Part.{Part}
use Rattle.flat_form.specs.declared.cube.Cube.{Cube}
use Rattle.flat_form.specs.Normals.{Norm, Norms, norm, none, also}

module _ (σ : Signature) where
  -- the atom's symbol is a root symbol over the signature, with its number of arguments
  abbrev pub AtomFits : Flat → Type 0
  AtomFits (VarVar u v) = Unit {0}
  AtomFits (VarTerm u symbol arguments) = IsRoot σ symbol (length arguments)
  AtomFits (Finite u) = Unit {0}

  -- each atom fits
  abbrev pub BasicFits : List Flat → Type 0
  BasicFits basic = All AtomFits basic

  -- the atoms of a cube and of its parts fit
  pub record CubeFits (cube : Cube) : Type 0 where
    pub basic : BasicFits cube.basic
    pub parts : All (λ (part : Part). BasicFits part.basic) cube.parts

  abbrev mutual
    -- the atoms of a negated conjunction and of its parts fit
    pub NormFits : Norm → Type 0
    NormFits (norm bound basic parts) = BasicFits basic × NormsFit parts

    pub NormsFit : Norms → Type 0
    NormsFit none = Unit {0}
    NormsFit (also part rest) = NormFits part × NormsFit rest
