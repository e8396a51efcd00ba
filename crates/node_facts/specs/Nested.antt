-- The nested list of a negated conjunction: its cubes are kept where they can hold together with the atoms round it.
use Rattle.std.specs.Prelude.{◌≡◌, ℕ, ◌+◌, List, [], ◌∷◌, ◌++◌, ◌⊎◌}
use Rattle.classical.specs.Classical.{Exists}
use Rattle.tree_model.specs.Signatures.{Signature}
use Rattle.tree_model.specs.Valuations.{Valuation}
use Rattle.flat_form.specs.declared.atom.Flat.{Flat}
use Rattle.flat_form.specs.declared.cube.Cube.{Cube}
use Rattle.flat_form.specs.Fitting.{CubeFits}
use Rattle.flat_form.specs.Meanings.{BasicHolds, CubeHolds}
use Rattle.flat_form.specs.Normals.{Norm, Norms, norm, none, also}
use Rattle.step_facts.specs.Lists.{IsFirst, IsJoined, IsClosed, IsPlain}

-- the raw cube made of the atoms and of the cube
abbrev pub beside : List Flat → Cube → Cube
beside atoms cube = record { free = cube.free; outer = cube.outer; basic = atoms ++ cube.basic; parts = cube.parts }

-- it has a solution, over each signature that its symbols fit
abbrev pub CanHold : Cube → Type 0
CanHold cube = (σ : Signature) → CubeFits σ cube → Exists (λ (e : Valuation σ). CubeHolds e cube)

-- it has none
abbrev pub NeverHolds : Cube → Type 0
NeverHolds cube = (σ : Signature) (e : Valuation σ) → CubeFits σ cube → ¬ CubeHolds e cube

-- the cube holds together with the atoms, under some valuation over this signature
abbrev pub HoldsWith : Signature → List Flat → Cube → Type 0
HoldsWith σ atoms cube = Exists (λ (e : Valuation σ). BasicHolds e atoms × CubeHolds e cube)

-- of a list of cubes those are kept, in order, that have a solution together with the atoms
abbrev pub Keeps : List Flat → List Cube → List Cube → Type 0
Keeps atoms [] out = out ≡ []
Keeps atoms (cube ∷ cubes) out =
    (CanHold (beside atoms cube) × (rest : List Cube) × Keeps atoms cubes rest × (out ≡ cube ∷ rest)) ⊎ (NeverHolds (beside atoms cube) × Keeps atoms cubes out)

-- What the lists of the parts come to, under the atoms round. They are joined with the own atoms; the bound variables are
-- closed; and before and after that the cubes are kept that have a solution together with the atoms round.
abbrev pub IsClosedUnder : ℕ → List Flat → ℕ → List Flat → List (List Cube) → List Cube → Type 0
IsClosedUnder n round bound basic lists out =
    (first : List Cube) × (all : List Cube) × (kept : List Cube) × (closed : List Cube)
    × IsFirst n bound basic first × IsJoined first lists all × Keeps round all kept × IsClosed n bound kept closed × Keeps round closed out

abbrev mutual
  -- The list that a negated conjunction over n variables comes to, under the atoms round it. Without parts it is the plain
  -- list. Else it is what the lists of its parts come to.
  pub IsNested : ℕ → List Flat → Norm → List Cube → Type 0
  IsNested n round (norm bound basic none) out = IsPlain n (norm bound basic none) out
  IsNested n round (norm bound basic (also part parts)) out =
      (lists : List (List Cube)) × NestedLists (n + bound) (round ++ basic) (also part parts) lists × IsClosedUnder n round bound basic lists out

  -- those of its parts, in order; round a part are the atoms round the conjunction, and then its own
  pub NestedLists : ℕ → List Flat → Norms → List (List Cube) → Type 0
  NestedLists n round none lists = lists ≡ []
  NestedLists n round (also part parts) lists =
      (list : List Cube) × (rest : List (List Cube)) × IsNested n round part list × NestedLists n round parts rest × (lists ≡ list ∷ rest)

-- the nested list, where no atoms stand round
abbrev pub IsNestedList : ℕ → Norm → List Cube → Type 0
IsNestedList n x out = IsNested n [] x out
