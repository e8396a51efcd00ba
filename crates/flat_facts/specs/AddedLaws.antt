-- Laws of what atoms add to a solved conjunction, and of solved forms.
use Rattle.std.specs.Prelude.{ℕ, ◌≡◌, List, [], ◌++◌, Contains, ◌↔◌, All}
use Rattle.classical.specs.Classical.{Exists}
use Rattle.tree_model.specs.declared.tree.Symbol.{Symbol}
use Rattle.tree_model.specs.Signatures.{Signature, Alike}
use Rattle.tree_model.specs.Trees.{IsFinite}
use Rattle.tree_model.specs.Valuations.{Valuation}
use Rattle.flat_form.specs.declared.atom.Flat.{Flat}
use Rattle.flat_form.specs.declared.atom.Flat.TheVariants.{VarTerm, Finite}
use Rattle.flat_form.specs.Meanings.{BasicHolds}
use Rattle.flat_form.specs.Numbering.{BasicOver}
use Rattle.flat_form.specs.Fitting.{BasicFits}
use Rattle.flat_form.specs.Symbols.{basic_symbols}
use Rattle.flat_form.specs.Classes.{Unsolvable}
use Rattle.flat_form.specs.Solved.{IsOpen, IsDirect, IsSolved}
use Rattle.flat_form.specs.Added.{IsAdded, IsSolvedForm}

-- what is added holds in each solution of the atoms
abbrev pub AddedFollows : Type 0
AddedFollows =
    (σ : Signature) (base atoms added : List Flat) (e : Valuation σ) → IsAdded base atoms added → BasicHolds e atoms → BasicHolds e added

-- a solution of the base and of what is added solves the atoms
abbrev pub AddedSuffices : Type 0
AddedSuffices =
    (σ : Signature) (base more added : List Flat) (e : Valuation σ) → IsDirect base → IsAdded base (base ++ more) added
    → BasicHolds e base → BasicHolds e added → BasicHolds e more

-- nothing is added exactly where the base implies the atoms
abbrev pub NothingAddedWhereImplied : Type 0
NothingAddedWhereImplied =
    (σ : Signature) (base more added : List Flat) → IsSolved base → BasicFits σ base → IsAdded base (base ++ more) added
    → added ≡ [] ↔ ((e : Valuation σ) → BasicHolds e base → BasicHolds e more)

-- where the atoms can be solved, some list is what they add
abbrev pub SomethingIsAdded : Type 0
SomethingIsAdded = (base atoms : List Flat) → ¬ Unsolvable atoms → Exists (λ (added : List Flat). IsAdded base atoms added)

-- and no other list is
abbrev pub AddedIsDetermined : Type 0
AddedIsDetermined = (base atoms one other : List Flat) → IsAdded base atoms one → IsAdded base atoms other → one ≡ other

-- what is added is over the variables of the atoms
abbrev pub AddedIsOver : Type 0
AddedIsOver = (n : ℕ) (base atoms added : List Flat) → BasicOver n atoms → IsAdded base atoms added → BasicOver n added

-- its symbols are symbols of the atoms, with as many arguments
abbrev pub AddedSymbols : Type 0
AddedSymbols = (base atoms added : List Flat) → IsAdded base atoms added → All (Contains (basic_symbols atoms)) (basic_symbols added)

-- so it fits what they fit
abbrev pub AddedFits : Type 0
AddedFits = (σ : Signature) (base atoms added : List Flat) → BasicFits σ atoms → IsAdded base atoms added → BasicFits σ added

-- no two added equations have the same symbol and arguments, nor has one the same as an equation of the base
abbrev pub AddedIsApart : Type 0
AddedIsApart =
    (base more added : List Flat) (u v : ℕ) (symbol : Symbol) (xs : List ℕ) → IsAdded base (base ++ more) added
    → Contains added (VarTerm u symbol xs)
    → (¬ Contains base (VarTerm v symbol xs)) × (Contains added (VarTerm v symbol xs) → u ≡ v)

-- a solved form has the shape of one
abbrev pub SolvedFormIsSolved : Type 0
SolvedFormIsSolved = (atoms form : List Flat) → IsSolvedForm atoms form → IsSolved form

-- and each list of this shape is the solved form of itself
abbrev pub SolvedIsOwnForm : Type 0
SolvedIsOwnForm = (form : List Flat) → IsSolved form → IsSolvedForm form form

-- a solved form is solved for all values of its roots that are finite where it says so
abbrev pub SolvedHasSolution : Type 0
SolvedHasSolution =
    (σ : Signature) (form : List Flat) (e : Valuation σ) → IsSolved form → BasicFits σ form
    → ((u : ℕ) → Contains form (Finite u) → IsFinite (e u).graph)
    → (d : Valuation σ) × BasicHolds d form × ((v : ℕ) → IsOpen form v → Alike (d v) (e v))

-- and by the values of its roots alone
abbrev pub SolvedIsUnique : Type 0
SolvedIsUnique =
    (σ : Signature) (form : List Flat) (d e : Valuation σ) → IsSolved form → BasicHolds d form → BasicHolds e form
    → ((v : ℕ) → IsOpen form v → Alike (d v) (e v)) → (v : ℕ) → Alike (d v) (e v)

-- the solved form has the solutions of the atoms
abbrev pub SolvedFormMeans : Type 0
SolvedFormMeans =
    (σ : Signature) (atoms form : List Flat) (e : Valuation σ) → IsSolvedForm atoms form → BasicHolds e form ↔ BasicHolds e atoms
