-- Laws of places: what is said of a branch is said of each in it, and what changes at one place.
use Rattle.std.specs.Prelude.{◌≡◌, ℕ, List}
use Rattle.lists.specs.Distinct.{IsDistinct}
use Rattle.tree_model.specs.Signatures.{Signature}
use Rattle.flat_form.specs.declared.atom.Flat.{Flat}
use Rattle.flat_form.specs.declared.cube.Cube.{Cube}
use Rattle.flat_form.specs.Fitting.{BasicFits, NormFits}
use Rattle.flat_form.specs.Numbering.{BasicOver, CubesOver}
use Rattle.node_facts.specs.Branches.{Branch, norm_in, BranchOver, BranchFits}
use Rattle.node_facts.specs.Places.{At, changed, listed}
use Rattle.node_facts.specs.Agreement.{AgreesAt, IsHeld}
use Rattle.node_facts.specs.Nested.{IsNested}

-- what is well numbered, fits or is held in a branch is so at each place in it, and the atoms round that are so too
pub record PlacesHave : Type 0 where
  pub over : (n i m : ℕ) (round under : List Flat) (root x : Branch) → At n round root i m under x → BranchOver n root → BasicOver n round
      → BranchOver m x × BasicOver m under
  pub fit : (σ : Signature) (n i m : ℕ) (round under : List Flat) (root x : Branch) → At n round root i m under x → BranchFits σ root → BasicFits σ round
      → BranchFits σ x × BasicFits σ under
  pub norm_fits : (σ : Signature) (n i m : ℕ) (round under : List Flat) (root x : Branch) → At n round root i m under x → NormFits σ (norm_in root)
      → BasicFits σ round → NormFits σ (norm_in x) × BasicFits σ under
  pub held : (n i m : ℕ) (round under : List Flat) (root x : Branch) → At n round root i m under x → IsHeld n round root → IsHeld m under x

-- Where what f makes of the branch at a place means the same under the atoms round that, the whole means the same. At the
-- root no atoms stand round, so it does under each valuation.
abbrev pub ChangedKeepsWhole : Type 0
ChangedKeepsWhole =
    (f : Branch → Branch) (σ : Signature) (n i m : ℕ) (round under : List Flat) (root x : Branch) → At n round root i m under x → BranchOver n root
    → BasicOver n round → AgreesAt σ m under x (f x) → AgreesAt σ n round root (changed f i root)

-- a list that is put at a place changes no negated conjunction
abbrev pub ListedIsSameNorm : Type 0
ListedIsSameNorm =
    (n i m : ℕ) (round under : List Flat) (root x : Branch) (list : List Cube) → At n round root i m under x → norm_in (listed i list root) ≡ norm_in root

-- where it is well numbered and distinct, the branch is well numbered again
abbrev pub ListedIsOver : Type 0
ListedIsOver =
    (n i m : ℕ) (round under : List Flat) (root x : Branch) (list : List Cube) → At n round root i m under x → CubesOver m list → IsDistinct list
    → BranchOver n root → BranchOver n (listed i list root)

-- where it is the nested list, all lists are held again
abbrev pub HeldStays : Type 0
HeldStays =
    (n i m : ℕ) (round under : List Flat) (root x : Branch) (list : List Cube) → At n round root i m under x → IsHeld n round root
    → IsNested m under (norm_in x) list → IsHeld n round (listed i list root)

-- held lists fit what the negated conjunction fits
abbrev pub HeldFits : Type 0
HeldFits = (σ : Signature) (n : ℕ) (round : List Flat) (x : Branch) → NormFits σ (norm_in x) → IsHeld n round x → BranchFits σ x
