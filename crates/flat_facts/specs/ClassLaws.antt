-- Laws of classes: what they say holds in each solution, and when there is none.
use Rattle.std.specs.Prelude.{ℕ, List, ◌↔◌}
use Rattle.classical.specs.Classical.{Exists}
use Rattle.tree_model.specs.Signatures.{Signature, Alike}
use Rattle.tree_model.specs.Trees.{IsFinite}
use Rattle.tree_model.specs.Valuations.{Valuation}
use Rattle.flat_form.specs.declared.atom.Flat.{Flat}
use Rattle.flat_form.specs.Meanings.{BasicHolds}
use Rattle.flat_form.specs.Fitting.{BasicFits}
use Rattle.flat_form.specs.Classes.{Class, Reached, Unsolvable}

-- in a solution the variables of a class have one value
abbrev pub ClassIsAlike : Type 0
ClassIsAlike = (σ : Signature) (atoms : List Flat) (e : Valuation σ) (u v : ℕ) → BasicHolds e atoms → Class atoms u v → Alike (e u) (e v)

-- in a solution a variable that is reached from a finite atom is finite
abbrev pub ReachedIsFinite : Type 0
ReachedIsFinite = (σ : Signature) (atoms : List Flat) (e : Valuation σ) (v : ℕ) → BasicHolds e atoms → Reached atoms v → IsFinite (e v).graph

-- atoms that clash, or with a walk from a finite atom that comes round, have no solution
abbrev pub UnsolvableHasNoSolution : Type 0
UnsolvableHasNoSolution = (σ : Signature) (atoms : List Flat) (e : Valuation σ) → BasicHolds e atoms → ¬ Unsolvable atoms

-- and all others have one, over each signature that their symbols fit
abbrev pub SolvableHasSolution : Type 0
SolvableHasSolution = (σ : Signature) (atoms : List Flat) → BasicFits σ atoms → Exists (λ (e : Valuation σ). BasicHolds e atoms) ↔ (¬ Unsolvable atoms)
