-- Laws of the cubes that are kept beside atoms.
use Rattle.std.specs.Prelude.{◌≡◌, ℕ, List, [], All, Contains, ◌↔◌}
use Rattle.lists.specs.Distinct.{IsDistinct}
use Rattle.tree_model.specs.Signatures.{Signature}
use Rattle.tree_model.specs.Valuations.{Valuation}
use Rattle.flat_form.specs.declared.atom.Flat.{Flat}
use Rattle.flat_form.specs.declared.cube.Cube.{Cube}
use Rattle.flat_form.specs.Fitting.{BasicFits}
use Rattle.flat_form.specs.Meanings.{BasicHolds, CubeHolds, SomeHolds, HasNone}
use Rattle.flat_form.specs.Numbering.{BasicOver}
use Rattle.flat_form.specs.Reduced.{IsReduced}
use Rattle.flat_form.specs.Symbols.{CubesFit}
use Rattle.list_facts.specs.Lists.{AreRaw, AreReduced}
use Rattle.node_facts.specs.Nested.{beside, HoldsWith, Keeps}

-- the raw cube made of a cube and of atoms over its free variables holds where both do
abbrev pub BesideMeans : Type 0
BesideMeans =
    (σ : Signature) (atoms : List Flat) (cube : Cube) (e : Valuation σ) → BasicOver cube.free atoms
    → CubeHolds e (beside atoms cube) ↔ (BasicHolds e atoms × CubeHolds e cube)

-- where the atoms hold, what is kept means what the whole list does
abbrev pub KeepsMeans : Type 0
KeepsMeans =
    (σ : Signature) (n : ℕ) (atoms : List Flat) (cubes out : List Cube) (e : Valuation σ) → AreRaw σ n cubes → BasicOver n atoms
    → BasicFits σ atoms → Keeps atoms cubes out → BasicHolds e atoms → SomeHolds e out ↔ SomeHolds e cubes

-- each cube that is kept holds together with the atoms
abbrev pub KeepsTogether : Type 0
KeepsTogether =
    (σ : Signature) (n : ℕ) (atoms : List Flat) (cubes out : List Cube) → AreRaw σ n cubes → BasicOver n atoms → BasicFits σ atoms
    → Keeps atoms cubes out → All (HoldsWith σ atoms) out

-- what is kept is some of the list, in order: it is like the list in what each cube has
pub record KeepsShape : Type 0 where
  pub among : (atoms : List Flat) (cubes out : List Cube) (cube : Cube) → Keeps atoms cubes out → Contains out cube → Contains cubes cube
  pub distinct : (atoms : List Flat) (cubes out : List Cube) → Keeps atoms cubes out → IsDistinct cubes → IsDistinct out
  pub reduced : (σ : Signature) (n : ℕ) (atoms : List Flat) (cubes out : List Cube) → Keeps atoms cubes out → AreReduced σ n cubes → AreReduced σ n out

-- one list only is kept
abbrev pub KeepsIsOne : Type 0
KeepsIsOne =
    (σ : Signature) (atoms : List Flat) (cubes one other : List Cube) → CubesFit σ cubes → BasicFits σ atoms → Keeps atoms cubes one
    → Keeps atoms cubes other → one ≡ other

-- beside no atoms all reduced cubes are kept
abbrev pub KeepsAll : Type 0
KeepsAll = (cubes : List Cube) → All IsReduced cubes → Keeps [] cubes cubes

-- beside atoms that have no solution none is
abbrev pub KeepsNone : Type 0
KeepsNone = (atoms : List Flat) (cubes : List Cube) → HasNone atoms → Keeps atoms cubes []
