-- What flat conjunctions, cubes and negated conjunctions mean under a valuation, over all rational trees as values.
use Rattle.std.specs.Prelude.{ℕ, ◌+◌, ◌<◌, List, [], ◌∷◌}
use Rattle.classical.specs.Classical.{Either, Exists}
use Rattle.tree_model.specs.Signatures.{Signature, Alike}
use Rattle.tree_model.specs.Trees.{IsFinite}
use Rattle.tree_model.specs.Valuations.{Valuation}
use Rattle.tree_facts.specs.Equations.{IsApplied}
use Rattle.flat_form.specs.declared.atom.Flat.{Flat}
use Rattle.flat_form.specs.declared.atom.Flat.TheVariants.{VarVar, VarTerm, Finite}
use Rattle.flat_form.specs.declared.cube.Part.{Part}
use Rattle.flat_form.specs.declared.cube.Cube.{Cube}
use Rattle.flat_form.specs.Normals.{Norm, Norms, norm, none, also}

module _ {σ : Signature} where
  -- the atom holds
  abbrev pub AtomHolds : Valuation σ → Flat → Type 0
  AtomHolds e (VarVar u v) = Alike (e u) (e v)
  AtomHolds e (VarTerm u symbol arguments) = IsApplied e u symbol arguments
  AtomHolds e (Finite u) = IsFinite (e u).graph

  -- each atom holds
  abbrev pub BasicHolds : Valuation σ → List Flat → Type 0
  BasicHolds e [] = Unit {0}
  BasicHolds e (atom ∷ rest) = AtomHolds e atom × BasicHolds e rest

  -- d has the values of e below n, each as the same tree, and any values from n on
  abbrev pub Extends : ℕ → Valuation σ → Valuation σ → Type 0
  Extends n e d = (v : ℕ) → v < n → Alike (d v) (e v)

  -- no values of the variables from n on, which the part binds, make its basic hold
  abbrev pub PartFails : ℕ → Valuation σ → Part → Type 0
  PartFails n e part = (d : Valuation σ) → Extends n e d → ¬ BasicHolds d part.basic

  -- so it is for each part
  abbrev pub AllFail : ℕ → Valuation σ → List Part → Type 0
  AllFail n e [] = Unit {0}
  AllFail n e (part ∷ rest) = PartFails n e part × AllFail n e rest

  -- some values of the outer variables make the basic hold and each part fail
  abbrev pub CubeHolds : Valuation σ → Cube → Type 0
  CubeHolds e cube =
      Exists (λ (d : Valuation σ). Extends cube.free e d × BasicHolds d cube.basic × AllFail (cube.free + cube.outer) d cube.parts)

  -- one of the cubes holds
  abbrev pub SomeHolds : Valuation σ → List Cube → Type 0
  SomeHolds e [] = ⊥
  SomeHolds e (cube ∷ rest) = Either (CubeHolds e cube) (SomeHolds e rest)

  abbrev mutual
    -- over n variables: no values of the bound variables make the basic and each part hold
    pub NormHolds : ℕ → Valuation σ → Norm → Type 0
    NormHolds n e (norm bound basic parts) =
        (d : Valuation σ) → Extends n e d → BasicHolds d basic → ¬ NormsHold (n + bound) d parts

    -- each holds
    pub NormsHold : ℕ → Valuation σ → Norms → Type 0
    NormsHold n e none = Unit {0}
    NormsHold n e (also part rest) = NormHolds n e part × NormsHold n e rest

-- no values make the atoms hold, over any signature
abbrev pub HasNone : List Flat → Type 0
HasNone atoms = (σ : Signature) (e : Valuation σ) → ¬ BasicHolds e atoms
