-- What one merge of two classes does to what waits.
use Rattle.std.specs.Prelude.{◌≡◌, ℕ, ◌<◌, List, length, map, nat_eq, cond, Contains, Some}
use Rattle.flat_form.specs.declared.atom.Flat.{Flat}
use Rattle.flat_form.specs.Classes.{Class}
use Rattle.term_graph.specs.declared.bound.Bound.TheVariants.{Free, Term}
use Rattle.term_graph.specs.Contents.{Contents, binding_of, term_at, IsLeader}
use Rattle.settled_facts.specs.Settled.{name}
use Rattle.congruence.specs.Agenda.{owner, Agenda, Joins, HasTerm, AreAlike, IsSound, IsUnderway}

-- v goes under w, and all else stays
abbrev pub redirected : ℕ → ℕ → ℕ → ℕ
redirected v w u = cond (nat_eq u v) w u

-- the class named v has gone into the class named w
pub record IsMerged (v w : ℕ) (old new : Contents) : Type 0 where
  pub names : (u : ℕ) → name new u ≡ redirected v w (name old u)
  pub terms : new.terms ≡ old.terms
  pub marks : new.marks ≡ old.marks
  pub free : (r : ℕ) → binding_of new.bindings r ≡ Free → binding_of old.bindings r ≡ Free
  pub bound : (r t : ℕ) → binding_of new.bindings r ≡ Term t → (¬ (r ≡ v)) × (binding_of old.bindings r ≡ Term t)
  pub others : (r : ℕ) → ¬ (r ≡ v) → binding_of new.bindings r ≡ binding_of old.bindings r
  pub apart : ¬ (w ≡ v)
  pub at_root : name old w ≡ w

-- the least term with the key of t
abbrev pub Leads : Contents → ℕ → ℕ → Type 0
Leads c t m = IsLeader c.bindings c.terms (term_at c.terms t).symbol (map (name c) (term_at c.terms t).args) (Some m)

-- t mentions the class named v, and is the least term with its key
abbrev pub IsMoved : Contents → ℕ → ℕ → Type 0
IsMoved c v t = (t < length c.terms) × Contains (map (name c) (term_at c.terms t).args) v × Leads c t t

-- what will be the key of t has this least term now
abbrev pub Meets : Contents → ℕ → ℕ → ℕ → ℕ → Type 0
Meets c v w t m = IsLeader c.bindings c.terms (term_at c.terms t).symbol (map (redirected v w) (map (name c) (term_at c.terms t).args)) (Some m)

module _ (new : Contents) (owners : List ℕ) (after : Agenda) where
  -- what waited waits, or is joined
  pub record AreKept (before : Agenda) : Type 0 where
    pub equal : (x y : ℕ) → Contains before.equal (x, y) → Joins new owners after x y
    pub alike : (t m : ℕ) → Contains before.alike (t, m) → Joins new owners after (owner owners t) (owner owners m)

  -- what waits may be made equal
  pub record IsAgendaSound (atoms : List Flat) : Type 0 where
    pub equal : (u v : ℕ) → Contains after.equal (u, v) → Class atoms u v
    pub alike : (t m : ℕ) → Contains after.alike (t, m) → Class atoms (owner owners t) (owner owners m)

  -- what waits after the merge
  pub record IsNoted (v w : ℕ) (old : Contents) : Type 0 where
    -- where the class that goes had a term, the other has one with the same symbol, and their arguments wait
    pub lost : (t : ℕ) → binding_of old.bindings v ≡ Term t → HasTerm new owners after w (term_at old.terms t).symbol (term_at old.terms t).args
    -- a leader that mentions v waits for the new leader of its key, or is it; then the leader before waits for it
    pub led : (t m : ℕ) → IsMoved old v t → Leads new t m → Joins new owners after (owner owners t) (owner owners m)
    pub taken : (t m : ℕ) → IsMoved old v t → Leads new t t → Meets old v w t m → Joins new owners after (owner owners m) (owner owners t)

abbrev pub MergeKeeps : Type 0
MergeKeeps = (v w : ℕ) (old new : Contents) (owners : List ℕ) (before after : Agenda) (atoms : List Flat)
    → IsMerged v w old new → Class atoms v w → AreKept new owners after before → IsAgendaSound new owners after atoms → IsNoted new owners after v w old
    → IsUnderway old owners before atoms → IsUnderway new owners after atoms

-- where nothing is merged, less or more may wait
abbrev pub AgendaMoves : Type 0
AgendaMoves = (c : Contents) (owners : List ℕ) (before after : Agenda) (atoms : List Flat)
    → AreKept c owners after before → IsAgendaSound c owners after atoms → IsUnderway c owners before atoms → IsUnderway c owners after atoms

-- terms with one key may be joined
abbrev pub AlikeIsSound : Type 0
AlikeIsSound = (c : Contents) (owners : List ℕ) (a : Agenda) (atoms : List Flat) (t m : ℕ) → IsSound c owners a atoms → AreAlike c t m
    → Class atoms (owner owners t) (owner owners m)
