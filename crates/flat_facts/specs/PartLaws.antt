-- Laws of parts: what may be pruned, moved into them and renumbered without a change of meaning.
use Rattle.std.specs.Prelude.{◌≡◌, ℕ, ◌<◌, ◌≤◌, List, map, length, slice_index, Contains, ◌↔◌}
use Rattle.tree_model.specs.declared.tree.Symbol.{Symbol}
use Rattle.tree_model.specs.Signatures.{Signature, Alike}
use Rattle.tree_model.specs.Valuations.{Valuation}
use Rattle.flat_form.specs.declared.atom.Flat.{Flat}
use Rattle.flat_form.specs.declared.atom.Flat.TheVariants.{VarVar, VarTerm, Finite}
use Rattle.flat_form.specs.Meanings.{BasicHolds, Extends}
use Rattle.flat_form.specs.Fitting.{BasicFits}
use Rattle.flat_form.specs.Solved.{Ascends, IsOpen, HasTerm}
use Rattle.flat_form.specs.Added.{IsAdded}
use Rattle.flat_form.specs.Parts.{variables_of, AllBelow, IsPruned, IsPartOver, renumbered}

-- the atoms hold for no values of the variables from n on
abbrev pub Fails : {σ : Signature} → ℕ → Valuation σ → List Flat → Type 0
Fails {σ} n e atoms = (d : Valuation σ) → Extends n e d → ¬ BasicHolds d atoms

-- solved but for the order: each variable has one atom at most, and what variables equal, and arguments, equal no others
pub record IsLoose (atoms : List Flat) : Type 0 where
  pub ascending : Ascends atoms
  pub direct : (u r w : ℕ) → Contains atoms (VarVar u r) → ¬ Contains atoms (VarVar r w)
  pub plain : (u : ℕ) (symbol : Symbol) (xs : List ℕ) → Contains atoms (VarTerm u symbol xs) → (i : ℕ) → i < length xs
      → (r : ℕ) → ¬ Contains atoms (VarVar (slice_index xs i) r)

-- what is added has this shape
abbrev pub AddedIsLoose : Type 0
AddedIsLoose = (base atoms added : List Flat) → IsAdded base atoms added → IsLoose added

-- a part fails exactly where what is kept of it does
abbrev pub PrunedFails : Type 0
PrunedFails =
    (σ : Signature) (m : ℕ) (part pruned : List Flat) (e : Valuation σ) → IsLoose part → BasicFits σ part → IsPruned m part pruned
    → ((u h : ℕ) → Contains part (VarVar u h) → u < m → h < m)
    → Fails m e part ↔ Fails m e pruned

-- and what is kept of what is added has the shape of a part over the base
abbrev pub PrunedIsPartOver : Type 0
PrunedIsPartOver =
    (m : ℕ) (base atoms added pruned : List Flat) → IsAdded base atoms added → IsPruned m added pruned
    → ((h : ℕ) → HasTerm base h → (h < m) × ((r : ℕ) → ¬ Contains base (VarVar h r)))
    → IsPartOver m base pruned

-- equations that determine the variables from m up to n, and only these
pub record Determines (m n : ℕ) (moved : List Flat) : Type 0 where
  pub in_order : m ≤ n
  pub loose : IsLoose moved
  pub low : AllBelow n moved
  pub equations : (u : ℕ) → ¬ Contains moved (Finite u)
  pub determined : (v : ℕ) → m ≤ v → v < n → ¬ IsOpen moved v
  pub others : (v : ℕ) → v < m → IsOpen moved v

-- where they hold and a part fails, the part fails with their variables as its own
abbrev pub FailsWithMoved : Type 0
FailsWithMoved =
    (σ : Signature) (m n : ℕ) (moved part : List Flat) (e : Valuation σ) → Determines m n moved → BasicHolds e moved → Fails n e part
    → (d : Valuation σ) → Extends m e d → BasicHolds d moved → ¬ BasicHolds d part

-- and back: some values of their variables make them hold, and there the part fails
abbrev pub FailsWhenFilled : Type 0
FailsWhenFilled =
    (σ : Signature) (m n : ℕ) (moved : List Flat) (e : Valuation σ) → Determines m n moved → BasicFits σ moved
    → (d : Valuation σ) × Extends m e d × BasicHolds d moved
    × ((part : List Flat) → ((y : Valuation σ) → Extends m e y → BasicHolds y moved → ¬ BasicHolds y part) → Fails n d part)

-- New numbers f for the variables, which g takes back: those below m get numbers below k, with the same values, and the
-- others numbers from k on. The atoms fail over m variables exactly where the renumbered ones do over k.
abbrev pub RenumberedFails : Type 0
RenumberedFails =
    (σ : Signature) (m k : ℕ) (f g : ℕ → ℕ) (part : List Flat) (d e : Valuation σ)
    → ((atom : Flat) → Contains part atom → (v : ℕ) → Contains (variables_of atom) v → g (f v) ≡ v)
    → ((atom : Flat) → Contains part atom → (v : ℕ) → Contains (variables_of atom) v → v < m → (f v < k) × Alike (d v) (e (f v)))
    → ((atom : Flat) → Contains part atom → (v : ℕ) → Contains (variables_of atom) v → m ≤ v → k ≤ f v)
    → Fails m d part ↔ Fails k e (map (renumbered f) part)
