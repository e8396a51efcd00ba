-- Laws of a turn: what the lists of the parts of a ready branch come to.
use Rattle.std.specs.Prelude.{◌≡◌, ℕ, ◌+◌, true, List, [], None, ◌↔◌}
use Rattle.tree_model.specs.Signatures.{Signature}
use Rattle.tree_model.specs.Valuations.{Valuation}
use Rattle.flat_form.specs.declared.atom.Flat.{Flat}
use Rattle.flat_form.specs.declared.cube.Cube.{Cube}
use Rattle.flat_form.specs.Fitting.{BasicFits, NormFits}
use Rattle.flat_form.specs.Meanings.{BasicHolds, SomeHolds}
use Rattle.flat_form.specs.Numbering.{BasicOver}
use Rattle.node_facts.specs.Agreement.{HaveLists, IsTurn, IsHeld}
use Rattle.node_facts.specs.Branches.{Branch, Branches, branch, norm_in, is_waiting, BranchHolds, BranchOver, BranchFits}
use Rattle.node_facts.specs.Nested.{IsClosedUnder}
use Rattle.node_facts.specs.Places.{At, listed}

-- wherever the atoms round hold, what the lists of its parts come to means what the branch does, whatever lists these are
abbrev pub ListedAgrees : Type 0
ListedAgrees =
    (σ : Signature) (n bound : ℕ) (round basic : List Flat) (parts : Branches) (lists : List (List Cube)) (out : List Cube) (e : Valuation σ)
    → BranchOver n (branch bound basic parts None) → BasicOver n round → BranchFits σ (branch bound basic parts None) → BasicFits σ round
    → HaveLists (n + bound) parts lists → IsClosedUnder n round bound basic lists out → BasicHolds e round
    → SomeHolds e out ↔ BranchHolds n e (branch bound basic parts None)

-- where the lists are held, it is what a turn gives
abbrev pub TurnIsMade : Type 0
TurnIsMade =
    (σ : Signature) (n bound : ℕ) (round basic : List Flat) (parts : Branches) (lists : List (List Cube)) (out : List Cube)
    → is_waiting (branch bound basic parts None) ≡ true → BranchOver n (branch bound basic parts None) → BasicOver n round
    → NormFits σ (norm_in (branch bound basic parts None)) → BasicFits σ round → IsHeld n round (branch bound basic parts None)
    → HaveLists (n + bound) parts lists → IsClosedUnder n round bound basic lists out → IsTurn σ n round (branch bound basic parts None) out

-- a turn keeps what the whole means
abbrev pub TurnKeepsWhole : Type 0
TurnKeepsWhole =
    (σ : Signature) (n i m : ℕ) (under : List Flat) (root x : Branch) (list : List Cube) (e : Valuation σ) → At n [] root i m under x → BranchOver n root
    → NormFits σ (norm_in root) → IsHeld n [] root → IsTurn σ m under x list → BranchHolds n e root ↔ BranchHolds n e (listed i list root)
