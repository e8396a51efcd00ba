-- Stores: scopes of variables and atoms, the lowest first, and what a call answers of them.
use Rattle.std.specs.Prelude.{◌≡◌, ℕ, ◌+◌, ◌<◌, Bool, true, false, List, [], ◌∷◌, ◌++◌, length, ◌↔◌}
use Rattle.classical.specs.Classical.{Exists}
use Rattle.tree_model.specs.Signatures.{Signature}
use Rattle.tree_model.specs.Valuations.{Valuation}
use Rattle.flat_form.specs.declared.atom.Flat.{Flat}
use Rattle.flat_form.specs.Meanings.{AtomHolds, BasicHolds, HasNone}
use Rattle.flat_form.specs.Fitting.{BasicFits}
use Rattle.flat_form.specs.Numbering.{BasicOver}
use Rattle.flat_form.specs.Classes.{Unsolvable}
use Rattle.flat_form.specs.Solved.{IsSolved}
use Rattle.flat_form.specs.Added.{IsAdded, IsSolvedForm}
use Rattle.basic_solver.specs.declared.scope.Scope.{Scope}
use Rattle.basic_solver.specs.declared.scope.Asserted.{Asserted}
use Rattle.basic_solver.specs.declared.scope.Asserted.TheVariants.{Clash, Kept}

-- all atoms, those of the lowest scope first
abbrev pub atoms_of : List Scope → List Flat
atoms_of [] = []
atoms_of (scope ∷ rest) = scope.atoms ++ atoms_of rest

-- how many variables are open
abbrev pub open_in : List Scope → ℕ
open_in [] = 0
open_in (scope ∷ rest) = scope.variables + open_in rest

-- what a store holds
pub record Stored : Type 0 where
  pub scopes : List Scope

-- the scopes below the top one
abbrev pub below : List Scope → List Scope
below [] = []
below (scope ∷ []) = []
below (scope ∷ next ∷ rest) = scope ∷ below (next ∷ rest)

-- the atoms of the top scope
abbrev pub top_of : List Scope → List Flat
top_of [] = []
top_of (scope ∷ []) = scope.atoms
top_of (scope ∷ next ∷ rest) = top_of (next ∷ rest)

-- the scopes with the atom last in the top one
abbrev pub with_atom : Flat → List Scope → List Scope
with_atom atom [] = []
with_atom atom (scope ∷ []) = record { variables = scope.variables; atoms = scope.atoms ++ atom ∷ [] } ∷ []
with_atom atom (scope ∷ next ∷ rest) = scope ∷ with_atom atom (next ∷ rest)

-- each scope's atoms are over its own variables and those below, of which there are n below the first scope
abbrev pub AreOver : ℕ → List Scope → Type 0
AreOver n [] = Unit {0}
AreOver n (scope ∷ rest) = BasicOver (n + scope.variables) scope.atoms × AreOver (n + scope.variables) rest

-- what a store keeps: one scope at least, the number of its variables, atoms over them, and these can be solved
pub record IsStore (count : ℕ) (scopes : List Scope) : Type 0 where
  pub some : 0 < length scopes
  pub counted : count ≡ open_in scopes
  pub over : AreOver 0 scopes
  pub solvable : ¬ Unsolvable (atoms_of scopes)

-- the atoms have a solution, over each signature that their symbols fit
abbrev pub HasSolution : List Flat → Type 0
HasSolution atoms = (σ : Signature) → BasicFits σ atoms → Exists (λ (e : Valuation σ). BasicHolds e atoms)

-- each solution of the atoms satisfies the further one, over a signature
abbrev pub Implies : Signature → List Flat → Flat → Type 0
Implies σ atoms atom = (e : Valuation σ) → BasicHolds e atoms → AtomHolds e atom

-- Clash: the atoms with this one have no solution, and the scopes are as before. Kept: they have one, the atom stands last in the
-- top scope, and it is not added exactly where each solution of the atoms before satisfies it.
abbrev pub IsAnswer : List Scope → List Scope → Flat → Asserted → Type 0
IsAnswer old new atom Clash = (new ≡ old) × HasNone (atoms_of old ++ atom ∷ [])
IsAnswer old new atom (Kept added) =
    (new ≡ with_atom atom old) × HasSolution (atoms_of old ++ atom ∷ [])
    × ((σ : Signature) → BasicFits σ (atoms_of old ++ atom ∷ []) → (added ≡ false) ↔ Implies σ (atoms_of old) atom)

-- the solved form of all atoms, where their symbols fit a signature
abbrev pub IsFormOf : List Scope → List Flat → Type 0
IsFormOf scopes form = (σ : Signature) → BasicFits σ (atoms_of scopes) → IsSolvedForm (atoms_of scopes) form

-- and it has their solutions
abbrev pub MeansAll : List Scope → List Flat → Type 0
MeansAll scopes form = (σ : Signature) (e : Valuation σ) → BasicFits σ (atoms_of scopes) → BasicHolds e form ↔ BasicHolds e (atoms_of scopes)

-- what the top scope adds to the solved form of the atoms below
abbrev pub IsExtraOf : List Scope → List Flat → Type 0
IsExtraOf scopes extra =
    (σ : Signature) → BasicFits σ (atoms_of scopes)
    → (form : List Flat) → IsSolvedForm (atoms_of (below scopes)) form → IsAdded form (form ++ top_of scopes) extra

-- with the atoms below it has the solutions of all
abbrev pub MeansTop : List Scope → List Flat → Type 0
MeansTop scopes extra =
    (σ : Signature) (e : Valuation σ) → BasicFits σ (atoms_of scopes) → BasicHolds e (atoms_of (below scopes))
    → BasicHolds e extra ↔ BasicHolds e (top_of scopes)

-- it is empty exactly where the atoms below imply the top scope
abbrev pub IsEmptyWhereImplied : List Scope → List Flat → Type 0
IsEmptyWhereImplied scopes extra =
    (σ : Signature) → BasicFits σ (atoms_of scopes)
    → extra ≡ [] ↔ ((e : Valuation σ) → BasicHolds e (atoms_of (below scopes)) → BasicHolds e (top_of scopes))

-- a scope that is opened and given up leaves the scopes as they were
abbrev pub PopUndoesPush : Type 0
PopUndoesPush = (scopes : List Scope) (scope : Scope) → below (scopes ++ scope ∷ []) ≡ scopes

-- whatever was asserted in it
abbrev pub PopUndoesAssert : Type 0
PopUndoesAssert = (scopes : List Scope) (atom : Flat) → below (with_atom atom scopes) ≡ below scopes

-- the atoms can be solved, or they have no solution
abbrev pub IsVerdict : List Flat → Bool → Type 0
IsVerdict atoms true = ¬ Unsolvable atoms
IsVerdict atoms false = HasNone atoms

-- whether the atom says more than the atoms, where they can be solved together
abbrev pub SaysMore : List Flat → Flat → Bool → Type 0
SaysMore atoms atom more =
    ¬ Unsolvable (atoms ++ atom ∷ []) → (σ : Signature) → BasicFits σ (atoms ++ atom ∷ []) → (more ≡ false) ↔ Implies σ atoms atom

-- the solved form of the atoms, where they have a solution; and a solved conjunction in any case
pub record IsFormFor (count : ℕ) (atoms list : List Flat) : Type 0 where
  pub form : ¬ HasNone atoms → IsSolvedForm atoms list
  pub shape : IsSolved list
  pub over : BasicOver count list

-- what further atoms add to the solved form of those below, where they can be solved together
abbrev pub IsExtraFor : List Flat → List Flat → List Flat → Type 0
IsExtraFor lower top extra =
    (σ : Signature) → BasicFits σ (lower ++ top) → ¬ Unsolvable (lower ++ top)
    → (form : List Flat) × IsSolvedForm lower form × IsAdded form (form ++ top) extra
