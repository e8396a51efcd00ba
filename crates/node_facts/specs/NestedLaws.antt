-- Laws of nested lists.
use Rattle.std.specs.Prelude.{◌≡◌, ℕ, List, All, Contains, ◌↔◌}
use Rattle.lists.specs.Distinct.{IsDistinct}
use Rattle.tree_model.specs.Signatures.{Signature}
use Rattle.tree_model.specs.Valuations.{Valuation}
use Rattle.flat_form.specs.declared.atom.Flat.{Flat}
use Rattle.flat_form.specs.declared.cube.Cube.{Cube}
use Rattle.flat_form.specs.Fitting.{BasicFits, NormFits}
use Rattle.flat_form.specs.Meanings.{BasicHolds, SomeHolds, NormHolds}
use Rattle.flat_form.specs.Normals.{Norm}
use Rattle.flat_form.specs.Numbering.{BasicOver, NormOver}
use Rattle.flat_form.specs.Symbols.{cubes_symbols, norm_symbols}
use Rattle.list_facts.specs.Lists.{AreReduced}
use Rattle.node_facts.specs.Nested.{IsNested}

-- wherever the atoms round hold, a cube of the nested list holds exactly where the negated conjunction does
abbrev pub NestedMeans : Type 0
NestedMeans =
    (σ : Signature) (n : ℕ) (round : List Flat) (x : Norm) (out : List Cube) (e : Valuation σ) → NormOver n x → BasicOver n round → NormFits σ x
    → BasicFits σ round → IsNested n round x out → BasicHolds e round → SomeHolds e out ↔ NormHolds n e x

-- its cubes are distinct; they are reduced, where the negated conjunction is well numbered and fits; and each of their
-- symbols stands in it
pub record NestedShape : Type 0 where
  pub distinct : (n : ℕ) (round : List Flat) (x : Norm) (out : List Cube) → IsNested n round x out → IsDistinct out
  pub reduced : (σ : Signature) (n : ℕ) (round : List Flat) (x : Norm) (out : List Cube) → NormOver n x → NormFits σ x → IsNested n round x out
      → AreReduced σ n out
  pub symbols : (n : ℕ) (round : List Flat) (x : Norm) (out : List Cube) → IsNested n round x out
      → All (Contains (norm_symbols x)) (cubes_symbols out)

-- no other list is the nested list: in whatever order the parts are taken, it comes to the same
abbrev pub NestedIsOne : Type 0
NestedIsOne =
    (σ : Signature) (n : ℕ) (round : List Flat) (x : Norm) (one other : List Cube) → NormFits σ x → BasicFits σ round → IsNested n round x one
    → IsNested n round x other → one ≡ other
