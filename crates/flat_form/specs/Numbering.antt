-- When cubes and negated conjunctions are well numbered: each variable is one of those in scope at its place, and no
-- symbol has more than eight arguments.
use Rattle.std.specs.Prelude.{◌≡◌, ℕ, ◌+◌, ◌<◌, ◌≤◌, List, length, All}
use Rattle.flat_form.specs.declared.atom.Flat.{Flat}
use Rattle.flat_form.specs.declared.atom.Flat.TheVariants.{VarVar, VarTerm, Finite}
use Rattle.flat_form.specs.declared.cube.Part.{Part}
use Rattle.flat_form.specs.declared.cube.Cube.{Cube}
use Rattle.flat_form.specs.Normals.{Norm, Norms, norm, none, also}

-- the atom is over n variables: each of its variables is below n, and it has at most eight arguments
abbrev pub AtomOver : ℕ → Flat → Type 0
AtomOver n (VarVar u v) = (u < n) × (v < n)
AtomOver n (VarTerm u symbol arguments) = (u < n) × All (λ v. v < n) arguments × (length arguments ≤ 8)
AtomOver n (Finite u) = u < n

-- each atom is over n variables
abbrev pub BasicOver : ℕ → List Flat → Type 0
BasicOver n basic = All (AtomOver n) basic

-- the part is over its own variables and the n variables of its cube
abbrev pub PartOver : ℕ → Part → Type 0
PartOver n part = BasicOver (n + part.inner) part.basic

-- the cube is well numbered
pub record IsWellNumbered (cube : Cube) : Type 0 where
  pub basic : BasicOver (cube.free + cube.outer) cube.basic
  pub parts : All (PartOver (cube.free + cube.outer)) cube.parts

-- the cubes are well numbered, over n free variables each
abbrev pub CubesOver : ℕ → List Cube → Type 0
CubesOver n cubes = All (λ (cube : Cube). (cube.free ≡ n) × IsWellNumbered cube) cubes

abbrev mutual
  -- the negated conjunction is well numbered over n variables, and so are its parts over those that it binds besides
  pub NormOver : ℕ → Norm → Type 0
  NormOver n (norm bound basic parts) = BasicOver (n + bound) basic × NormsOver (n + bound) parts

  pub NormsOver : ℕ → Norms → Type 0
  NormsOver n none = Unit {0}
  NormsOver n (also part rest) = NormOver n part × NormsOver n rest
