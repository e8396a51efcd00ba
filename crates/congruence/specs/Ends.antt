-- What holds when nothing waits any more.
use Rattle.std.specs.Prelude.{◌≡◌, ℕ, List, [], ◌∷◌, ◌++◌}
use Rattle.flat_form.specs.declared.atom.Flat.{Flat}
use Rattle.flat_form.specs.declared.atom.Flat.TheVariants.{Finite}
use Rattle.flat_form.specs.Classes.{Reached}
use Rattle.term_graph.specs.Contents.{Contents}
use Rattle.settled_facts.specs.Settled.{name, IsFree, IsMarked, IsShaped, Firm, IsSettled}
use Rattle.settled_facts.specs.Changes.{IsMoreMarked}
use Rattle.congruence.specs.Agenda.{idle, IsUnderway}

-- marks of what must be finite change nothing of what waits
abbrev pub MarksKeepUnderway : Type 0
MarksKeepUnderway = (old new : Contents) (owners : List ℕ) (atoms : List Flat) → IsMoreMarked old new
    → ((r : ℕ) → IsFree new r → IsMarked new r → Reached atoms r) → IsUnderway old owners idle atoms → IsUnderway new owners idle atoms

-- and what is firm is firm
abbrev pub MarksKeepFirm : Type 0
MarksKeepFirm = (old new : Contents) (r : ℕ) → IsMoreMarked old new → Firm old r → Firm new r

-- Where nothing waits, each class that had a mark is firm, and so is that of a variable that the atom says to be finite, the
-- contents have settled the atom with the atoms that they had settled before.
abbrev pub SettlesAgain : Type 0
SettlesAgain = (old new : Contents) (owners more : List ℕ) (below : List Flat) (atom : Flat) → IsShaped old → IsShaped new
    → IsSettled old owners below → IsUnderway new more idle (below ++ atom ∷ [])
    → ((u : ℕ) → name new u ≡ name new (name old u))
    → ((r : ℕ) → IsFree old r → IsMarked old r → Firm new (name new r))
    → ((u : ℕ) → atom ≡ Finite u → Firm new (name new u))
    → IsSettled new more (below ++ atom ∷ [])
