-- What a turn of the agenda takes, and what it makes wait.
use Rattle.std.specs.Prelude.{◌≡◌, ◌≢◌, ℕ, suc, ◌*◌, Bool, true, false, ◌<◌, ◌≤◌, ◌+◌, List, [], ◌∷◌, ◌++◌, length, map, slice_index, Contains, Option, Some, None, cond, nat_eq, ◌⊎◌, ◌↔◌}
use Rattle.flat_form.specs.declared.atom.Flat.{Flat}
use Rattle.flat_form.specs.Classes.{Unsolvable}
use Rattle.term_graph.specs.declared.bound.Bound.{Bound}
use Rattle.term_graph.specs.declared.bound.Bound.TheVariants.{Free, Term, Variable}
use Rattle.term_graph.specs.Contents.{Contents, binding_of, term_at, IsLeader, with_binding, IsWellFormed}
use Rattle.settled_facts.specs.Settled.{name, IsFree, IsMarked}
use Rattle.settled_facts.specs.Changes.{IsLater}
use Rattle.congruence.specs.declared.noting.Note.{Note}
use Rattle.congruence.specs.Agenda.{owner, Agenda, IsUnderway}
use Rattle.congruence.specs.Merges.{redirected, IsMoved, Leads}

-- x and y stand at one place below n
abbrev pub AreBeside : ℕ → List ℕ → List ℕ → ℕ → ℕ → Type 0
AreBeside n xs ys x y = (i : ℕ) × (i < n) × (slice_index xs i ≡ x) × (slice_index ys i ≡ y)

-- the pairs at these places are there beside those that were
abbrev pub ArePairedBelow : ℕ → List ℕ → List ℕ → List (ℕ × ℕ) → List (ℕ × ℕ) → Type 0
ArePairedBelow n xs ys old new = (x y : ℕ) → Contains {X = ℕ × ℕ} new (x, y) ↔ (Contains {X = ℕ × ℕ} old (x, y) ⊎ AreBeside n xs ys x y)

abbrev pub ArePaired : List ℕ → List ℕ → List (ℕ × ℕ) → List (ℕ × ℕ) → Type 0
ArePaired xs ys old new = ArePairedBelow (length xs) xs ys old new

-- the terms that wait have owners
abbrev pub AreOwned : Agenda → List ℕ → Type 0
AreOwned a owners = (t m : ℕ) → Contains {X = ℕ × ℕ} a.alike (t, m) → (t < length owners) × (m < length owners)

-- p and q were the last pair of terms, by their owners; or no terms waited, and they were the last pair of variables
abbrev pub Takes : List ℕ → Agenda → Agenda → ℕ → ℕ → Type 0
Takes owners old new p q =
    ((t : ℕ) × (m : ℕ) × (old.alike ≡ new.alike ++ (t, m) ∷ []) × (old.equal ≡ new.equal) × (p ≡ owner owners t) × (q ≡ owner owners m))
    ⊎ ((old.alike ≡ []) × (new.alike ≡ []) × (old.equal ≡ new.equal ++ (p, q) ∷ []))

-- one of a and b goes under the other, and no class with a term under one without
abbrev pub IsChoice : Contents → ℕ → ℕ → ℕ → ℕ → Type 0
IsChoice c a b v w =
    (((v ≡ a) × (w ≡ b)) ⊎ ((v ≡ b) × (w ≡ a)))
    × ((t : ℕ) → binding_of c.bindings v ≡ Term t → (s : ℕ) × (binding_of c.bindings w ≡ Term s))

-- two terms have one symbol, and as many arguments
abbrev pub HaveOneShape : Contents → ℕ → ℕ → Type 0
HaveOneShape c t s = ((term_at c.terms t).symbol ≡ (term_at c.terms s).symbol) × (length (term_at c.terms t).args ≡ length (term_at c.terms s).args)

-- both are bound to terms, with different symbols or numbers of arguments
abbrev pub Differ : Contents → ℕ → ℕ → Type 0
Differ c v w =
    (t : ℕ) × (s : ℕ) × (binding_of c.bindings v ≡ Term t) × (binding_of c.bindings w ≡ Term s) × (¬ HaveOneShape c t s)

-- v is bound to no term; or both are, with one symbol and as many arguments, and these wait
abbrev pub TermsWait : Contents → ℕ → ℕ → List (ℕ × ℕ) → List (ℕ × ℕ) → Type 0
TermsWait c v w old new =
    (((t : ℕ) → ¬ (binding_of c.bindings v ≡ Term t)) × (new ≡ old))
    ⊎ ((t : ℕ) × (s : ℕ) × (binding_of c.bindings v ≡ Term t) × (binding_of c.bindings w ≡ Term s)
    × HaveOneShape c t s × ArePaired (term_at c.terms s).args (term_at c.terms t).args old new)

-- the least term with what the key of t will be
abbrev pub IsMet : Contents → ℕ → ℕ → ℕ → Option ℕ → Type 0
IsMet c v w t o = IsLeader c.bindings c.terms (term_at c.terms t).symbol (map (redirected v w) (map (name c) (term_at c.terms t).args)) o

-- a note of a term that is the least with its key
pub record IsNoteOf (c : Contents) (v w t : ℕ) (note : Note) : Type 0 where
  pub is : note.term ≡ t
  pub leads : Leads c t t
  pub met : IsMet c v w t note.before

-- of these terms those that are the least with their keys are noted, and no others
pub record AreNotesOf (c : Contents) (v w : ℕ) (terms : List ℕ) (notes : List Note) : Type 0 where
  pub all : (t : ℕ) → Contains terms t → Leads c t t → (note : Note) × Contains notes note × (note.term ≡ t)
  pub each : (note : Note) → Contains notes note → Contains terms note.term × Leads c note.term note.term × IsMet c v w note.term note.before
  pub few : length notes ≤ length terms

-- the leaders that mention the class named v are noted, and no others
pub record AreNotes (c : Contents) (v w : ℕ) (notes : List Note) : Type 0 where
  pub all : (t : ℕ) → IsMoved c v t → (note : Note) × Contains notes note × (note.term ≡ t)
  pub each : (note : Note) → Contains notes note → IsMoved c v note.term × IsMet c v w note.term note.before
  pub few : length notes ≤ length c.terms

abbrev pub AreInside : Contents → List Note → Type 0
AreInside c notes = (note : Note) → Contains notes note → note.term < length c.terms

-- what a noted term makes wait, where this is the least term with its key now
abbrev pub links_before : ℕ → Option ℕ → List (ℕ × ℕ)
links_before t None = []
links_before t (Some o) = (o, t) ∷ []

abbrev pub links_of : Note → Option ℕ → List (ℕ × ℕ)
links_of note None = []
links_of note (Some m) = cond (nat_eq m note.term) (links_before note.term note.before) ((note.term, m) ∷ [])

-- the pair is one that a note makes wait
abbrev pub IsLink : Contents → List Note → ℕ → ℕ → Type 0
IsLink c notes x y = (note : Note) × Contains notes note × (((x ≡ note.term) × Leads c note.term y) ⊎ ((note.before ≡ Some x) × (y ≡ note.term)))

-- each noted term waits for the least with its key, or is that, and what was it before waits for it
pub record AreLinked (c : Contents) (old new : List (ℕ × ℕ)) (notes : List Note) : Type 0 where
  pub kept : (x y : ℕ) → Contains {X = ℕ × ℕ} old (x, y) → Contains {X = ℕ × ℕ} new (x, y)
  pub moved : (note : Note) (m : ℕ) → Contains notes note → Leads c note.term m → m ≢ note.term → Contains {X = ℕ × ℕ} new (note.term, m)
  pub taken : (note : Note) (o : ℕ) → Contains notes note → Leads c note.term note.term → note.before ≡ Some o → Contains {X = ℕ × ℕ} new (o, note.term)
  pub each : (x y : ℕ) → Contains {X = ℕ × ℕ} new (x, y) → Contains {X = ℕ × ℕ} old (x, y) ⊎ IsLink c notes x y
  pub few : length new ≤ length old + length notes

-- one of a and b has gone under the other, and what this makes equal waits
pub record IsMergeStep (old new : Contents) (before after : Agenda) (a b : ℕ) : Type 0 where
  pub goes : ℕ
  pub stays : ℕ
  pub choice : IsChoice old a b goes stays
  pub bound : new ≡ with_binding goes (Variable stays) old
  pub terms : TermsWait old goes stays before.equal after.equal
  pub few : length after.equal ≤ length before.equal + 8
  pub notes : List Note
  pub noted : AreNotes old goes stays notes
  pub linked : AreLinked new before.alike after.alike notes

-- v is to be walked through, where it is free and has a mark
abbrev pub IsWatched : Contents → ℕ → List ℕ → List ℕ → Type 0
IsWatched c v old new = ((IsFree c v → ¬ IsMarked c v) × (new ≡ old)) ⊎ (IsMarked c v × ((t : ℕ) → ¬ (binding_of c.bindings v ≡ Term t)) × (new ≡ old ++ v ∷ []))

-- what is to be walked through: what was, and each class with a mark that has lost its root
pub record AreWatched (old new : Contents) (before after : List ℕ) : Type 0 where
  pub kept : (r : ℕ) → Contains before r → Contains after r
  pub lost : (r : ℕ) → IsFree old r → IsMarked old r → IsFree new r ⊎ Contains after r
  pub each : (r : ℕ) → Contains after r → Contains before r ⊎ (IsFree old r × IsMarked old r)

-- numbers on the agenda are of variables and terms that there are
pub record AreInRange (c : Contents) (a : Agenda) : Type 0 where
  pub equal : (u v : ℕ) → Contains {X = ℕ × ℕ} a.equal (u, v) → (u < length c.bindings) × (v < length c.bindings)
  pub alike : (t m : ℕ) → Contains {X = ℕ × ℕ} a.alike (t, m) → (t < length c.terms) × (m < length c.terms)

-- turns lead from one state to another
pub record LeadsOn (owners : List ℕ) (old new : Contents) (before after : Agenda) (starts starts_now : List ℕ) : Type 0 where
  pub underway : (atoms : List Flat) → IsUnderway old owners before atoms → IsUnderway new owners after atoms
  pub later : IsLater old new
  pub marks : new.marks ≡ old.marks
  pub terms : new.terms ≡ old.terms
  pub watched : AreWatched old new starts starts_now

-- how many roots there are
abbrev pub is_root : Bound → Bool
is_root Free = true
is_root (Variable v) = false
is_root (Term t) = true

abbrev pub roots_in : List Bound → ℕ
roots_in [] = 0
roots_in (b ∷ bindings) = cond (is_root b) (suc (roots_in bindings)) (roots_in bindings)

-- falls with each pair that is taken: a merge makes at most eight pairs of variables wait, and one pair for each term
abbrev pub weight : Contents → Agenda → ℕ
weight c a = roots_in c.bindings * (9 + length c.terms) + (length a.equal + length a.alike)

-- each term has an owner
pub record AreOwners (c : Contents) (owners : List ℕ) : Type 0 where
  pub counted : length owners ≡ length c.terms
  pub within : (t : ℕ) → t < length c.terms → owner owners t < length c.bindings

-- the atoms can't be solved
abbrev pub Refutes : List ℕ → Contents → Agenda → Type 0
Refutes owners c a = (atoms : List Flat) → IsUnderway c owners a atoms → Unsolvable atoms

-- a merge of the classes of a pair that was taken leads on
abbrev pub MergeLeadsOn : Type 0
MergeLeadsOn = (old new : Contents) (owners : List ℕ) (before rest after : Agenda) (p q : ℕ) → IsWellFormed old → p < length old.bindings → q < length old.bindings
    → name old p ≢ name old q → IsMergeStep old new rest after (name old p) (name old q) → Takes owners before rest p q
    → (atoms : List Flat) → IsUnderway old owners before atoms → IsUnderway new owners after atoms

-- p and q have one name, and nothing is done; or their classes are merged
abbrev pub IsTurn : Contents → Contents → Agenda → Agenda → List ℕ → List ℕ → ℕ → ℕ → Type 0
IsTurn old new before after starts starts_now p q =
    ((name old p ≡ name old q) × (new ≡ old) × (after ≡ before) × (starts_now ≡ starts))
    ⊎ ((name old p ≢ name old q) × IsMergeStep old new before after (name old p) (name old q) × AreWatched old new starts starts_now)

-- no atoms can be solved that make p and q equal, which were taken
abbrev pub RefutesBoth : Contents → Agenda → ℕ → ℕ → Type 0
RefutesBoth c rest p q = (owners : List ℕ) (before : Agenda) → Takes owners before rest p q → Refutes owners c before
