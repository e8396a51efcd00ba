-- Laws for a store of atoms in scopes: what one call of the solver over the solved form of the atoms below says of the
-- atoms themselves.
use Rattle.std.specs.Prelude.{◌≡◌, List, [], ◌++◌, ◌↔◌}
use Rattle.classical.specs.Classical.{Exists}
use Rattle.tree_model.specs.Signatures.{Signature}
use Rattle.tree_model.specs.Valuations.{Valuation}
use Rattle.flat_form.specs.declared.atom.Flat.{Flat}
use Rattle.flat_form.specs.Meanings.{BasicHolds}
use Rattle.flat_form.specs.Fitting.{BasicFits}
use Rattle.flat_form.specs.Classes.{Unsolvable}
use Rattle.flat_form.specs.Added.{IsAdded, IsSolvedForm}

-- further atoms have a solution together with those below exactly where they can be solved over their solved form
abbrev pub TogetherSolvable : Type 0
TogetherSolvable =
    (σ : Signature) (below solved more : List Flat) → IsSolvedForm below solved → BasicFits σ below → BasicFits σ more
    → Exists (λ (e : Valuation σ). BasicHolds e below × BasicHolds e more) ↔ (¬ Unsolvable (solved ++ more))

-- what they add to the solved form says, together with the atoms below, what they say
abbrev pub AddedMeansMore : Type 0
AddedMeansMore =
    (σ : Signature) (below solved more added : List Flat) (e : Valuation σ)
    → IsSolvedForm below solved → IsAdded solved (solved ++ more) added
    → BasicHolds e below → BasicHolds e added ↔ BasicHolds e more

-- and it is empty exactly where the atoms below imply them
abbrev pub NothingAddedToStore : Type 0
NothingAddedToStore =
    (σ : Signature) (below solved more added : List Flat)
    → IsSolvedForm below solved → IsAdded solved (solved ++ more) added → BasicFits σ below
    → added ≡ [] ↔ ((e : Valuation σ) → BasicHolds e below → BasicHolds e more)
