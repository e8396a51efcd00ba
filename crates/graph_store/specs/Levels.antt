-- What a store keeps of its scopes: the graph and the owners of its terms as they were where each scope was opened.
use Rattle.std.specs.Prelude.{◌≡◌, ℕ, ◌+◌, ◌≤◌, List, [], ◌∷◌, ◌++◌, length, take}
use Rattle.flat_form.specs.declared.atom.Flat.{Flat}
use Rattle.term_graph.specs.Contents.{Contents, History, back_to}
use Rattle.settled_facts.specs.Settled.{IsSettled}
use Rattle.congruence.specs.Turns.{AreOwners}
use Rattle.basic_solver.specs.declared.scope.Scope.{Scope}
use Rattle.basic_solver.specs.Stores.{atoms_of, open_in}
use Rattle.graph_store.specs.declared.floor.Floor.{Floor}

-- the contents have settled the atoms of the scopes, each term has an owner, and the variables are those of the scopes
pub record IsLevel (c : Contents) (owners : List ℕ) (scopes : List Scope) : Type 0 where
  pub settled : IsSettled c owners (atoms_of scopes)
  pub owned : AreOwners c owners
  pub variables : length c.bindings ≡ open_in scopes

-- so it is now, and was below each scope but the lowest, at its floor
pub data AreLevels : History → List ℕ → List Scope → List Floor → Type 0 where
  lowest : (h : History) (owners : List ℕ) (scope : Scope) → IsLevel h.contents owners (scope ∷ []) → AreLevels h owners (scope ∷ []) []
  above : (h : History) (owners : List ℕ) (scopes : List Scope) (scope : Scope) (floors : List Floor) (floor : Floor)
      → IsLevel h.contents owners (scopes ++ scope ∷ []) → floor.mark.length ≤ length h.trail → floor.owners ≤ length owners
      → AreLevels (back_to floor.mark.length h) (take floor.owners owners) scopes floors
      → AreLevels h owners (scopes ++ scope ∷ []) (floors ++ floor ∷ [])

-- whatever was settled is settled, with so many variables more
pub record HasGrownBy (old new : Contents) (count : ℕ) : Type 0 where
  pub variables : length new.bindings ≡ length old.bindings + count
  pub terms : length new.terms ≡ length old.terms
  pub settled : (owners : List ℕ) (atoms : List Flat) → IsSettled old owners atoms → IsSettled new owners atoms
