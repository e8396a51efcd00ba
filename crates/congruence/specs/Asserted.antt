-- What an assertion comes to: walks from what must be finite, and all that is settled then.
use Rattle.std.specs.Prelude.{ℕ, List, ◌∷◌, [], ◌++◌, Contains}
use Rattle.flat_form.specs.declared.atom.Flat.{Flat}
use Rattle.flat_form.specs.Classes.{Reached, Unsolvable}
use Rattle.term_graph.specs.Contents.{Contents}
use Rattle.settled_facts.specs.Settled.{name, Firm, Follows, IsSettled}
use Rattle.settled_facts.specs.Changes.{IsMoreMarked, IsLater}
use Rattle.congruence.specs.Turns.{AreOwners}
use Rattle.congruence.specs.Begun.{IsLonger}

-- the atoms make each of these variables finite
abbrev pub MakeFinite : List Flat → List ℕ → Type 0
MakeFinite atoms starts = (s : ℕ) → Contains starts s → Reached atoms s

-- No walk from these variables comes round, and what they end at has a mark. What the contents say follows as before from
-- atoms that make them finite.
pub record AreWalked (old new : Contents) (starts : List ℕ) : Type 0 where
  pub more : IsMoreMarked old new
  pub firm : (s : ℕ) → Contains starts s → Firm new (name new s)
  pub follows : (atoms : List Flat) → Follows old atoms → MakeFinite atoms starts → Follows new atoms

-- what the contents follow from can't be solved where it makes these variables finite
abbrev pub ComeRound : Contents → List ℕ → Type 0
ComeRound c starts = (atoms : List Flat) → Follows c atoms → MakeFinite atoms starts → Unsolvable atoms

-- What the contents had settled is settled with the atom, and what they said is said still.
pub record IsAsserted (old new : Contents) (owners owners_now : List ℕ) (atom : Flat) : Type 0 where
  pub settled : (below : List Flat) → IsSettled old owners below → IsSettled new owners_now (below ++ atom ∷ [])
  pub later : IsLater old new
  pub owned : AreOwners new owners_now
  pub longer : IsLonger owners owners_now
