-- What an assertion begins with.
use Rattle.std.specs.Prelude.{◌≡◌, ℕ, ◌<◌, ◌≤◌, List, [], ◌∷◌, ◌++◌, length, take, Contains, ◌⊎◌}
use Rattle.tree_model.specs.declared.tree.Symbol.{Symbol}
use Rattle.flat_form.specs.declared.atom.Flat.{Flat}
use Rattle.flat_form.specs.declared.atom.Flat.TheVariants.{Finite}
use Rattle.flat_form.specs.Classes.{Unsolvable}
use Rattle.term_graph.specs.Contents.{Contents, term_at}
use Rattle.settled_facts.specs.Settled.{IsFree, IsMarked, IsSettled}
use Rattle.settled_facts.specs.Changes.{IsLater}
use Rattle.congruence.specs.Agenda.{Agenda, IsUnderway}
use Rattle.congruence.specs.Turns.{AreInRange, AreOwners}

-- the term has this symbol, and as many arguments
abbrev pub HasShape : Contents → ℕ → Symbol → List ℕ → Type 0
HasShape c t symbol xs = ((term_at c.terms t).symbol ≡ symbol) × (length (term_at c.terms t).args ≡ length xs)

-- what was in the list stands at its front
abbrev pub IsLonger : List ℕ → List ℕ → Type 0
IsLonger old new = (length old ≤ length new) × (take (length old) new ≡ old)

-- What the contents had settled is underway with the atom, and each class that had a mark is free or to be walked through.
pub record IsBegun (old new : Contents) (owners owners_now : List ℕ) (waiting : Agenda) (starts : List ℕ) (atom : Flat) : Type 0 where
  pub underway : (below : List Flat) → IsSettled old owners below → IsUnderway new owners_now waiting (below ++ atom ∷ [])
  pub later : IsLater old new
  pub marks : new.marks ≡ old.marks
  pub owned : AreOwners new owners_now
  pub range : AreInRange new waiting
  pub lost : (r : ℕ) → IsFree old r → IsMarked old r → IsFree new r ⊎ Contains starts r
  pub said : (u : ℕ) → atom ≡ Finite u → Contains starts u
  pub each : (r : ℕ) → Contains starts r → (r < length new.bindings) × ((atom ≡ Finite r) ⊎ (IsFree old r × IsMarked old r))

-- the atoms that the contents had settled can't be solved with this one
abbrev pub RefutesAtom : Contents → List ℕ → Flat → Type 0
RefutesAtom c owners atom = (below : List Flat) → IsSettled c owners below → Unsolvable (below ++ atom ∷ [])
