-- What contents say more than they did at an earlier time, and laws of it.
use Rattle.std.specs.Prelude.{◌≡◌, ℕ, ◌<◌, ◌≤◌, List, [], ◌++◌, length, slice_index, Contains, ◌↔◌, None}
use Rattle.tree_model.specs.declared.tree.Symbol.{Symbol}
use Rattle.flat_form.specs.declared.atom.Flat.{Flat}
use Rattle.flat_form.specs.declared.atom.Flat.TheVariants.{VarVar, VarTerm, Finite}
use Rattle.flat_form.specs.Solved.{variable_of, Ascends}
use Rattle.flat_form.specs.Added.{IsAdded}
use Rattle.term_graph.specs.Contents.{Contents, target_of}
use Rattle.settled_facts.specs.Settled.{name, IsFree, IsMarked, IsShaped, HasTermIn, IsSettled}
use Rattle.settled_facts.specs.Forms.{IsLeast, IsReadOff}
use Rattle.settled_facts.specs.Changes.{IsLater, IsUnchanged, FreeStay}

-- v was the least variable with its name, which was free
pub record WasFree (then : Contents) (v : ℕ) : Type 0 where
  pub least : IsLeast then v v
  pub free : IsFree then (name then v)

-- v was the least variable with its name, which had a term
pub record HadTerm (then : Contents) (v : ℕ) : Type 0 where
  pub least : IsLeast then v v
  pub symbol : Symbol
  pub arguments : List ℕ
  pub term : HasTermIn then (name then v) symbol arguments

module _ (then now : Contents) where
  -- the head of the variables that now have the name of v: the least that had a term, else the least that was free
  pub data IsHeadNow (v h : ℕ) : Type 0 where
    by_term : name now h ≡ name now v → HadTerm then h → ((w : ℕ) → name now w ≡ name now v → HadTerm then w → h ≤ w) → IsHeadNow v h
    by_free : ((w : ℕ) → name now w ≡ name now v → ¬ HadTerm then w) → name now h ≡ name now v → WasFree then h
        → ((w : ℕ) → name now w ≡ name now v → WasFree then w → h ≤ w) → IsHeadNow v h

  -- ys are the heads of xs, place by place
  pub record AreHeads (xs ys : List ℕ) : Type 0 where
    pub as_many : length ys ≡ length xs
    pub each : (i : ℕ) → i < length xs → IsHeadNow (slice_index xs i) (slice_index ys i)

  -- The atom says more of a variable that was free: that it equals the head of its class; or, where it is the head, the term
  -- of the class, or that it is finite, where no free one of the class had a mark.
  abbrev pub SaysMore : Flat → Type 0
  SaysMore (VarVar v h) = WasFree then v × IsHeadNow v h × (¬ (v ≡ h))
  SaysMore (VarTerm v symbol ys) = WasFree then v × IsHeadNow v v × (keys : List ℕ) × HasTermIn now (name now v) symbol keys × AreHeads keys ys
  SaysMore (Finite v) =
      WasFree then v × IsHeadNow v v × IsFree now (name now v) × IsMarked now (name now v)
      × ((r : ℕ) → name now r ≡ name now v → WasFree then r → ¬ IsMarked then (name then r))

  -- all that is said more, in ascending order of variables
  pub record IsSaidMore (added : List Flat) : Type 0 where
    pub ascending : Ascends added
    pub each : (atom : Flat) → Contains added atom → SaysMore atom
    pub all : (atom : Flat) → SaysMore atom → Contains added atom

-- it is what further atoms add to the solved form of those that were settled
abbrev pub MoreIsAdded : Type 0
MoreIsAdded =
    (then now : Contents) (owners : List ℕ) (form more added : List Flat) → IsShaped then → IsShaped now → IsReadOff then form
    → IsSettled now owners (form ++ more) → IsSaidMore then now added ↔ IsAdded form (form ++ more) added

-- nothing is said more exactly where the free variables stay free and get no mark
abbrev pub NothingMoreWhereFreeStay : Type 0
NothingMoreWhereFreeStay =
    (then now : Contents) (added : List Flat) → IsShaped then → IsShaped now → IsLater then now → IsSaidMore then now added
    → (added ≡ []) ↔ FreeStay then now

-- of the variables of an unchanged root nothing is said more
abbrev pub UnchangedSaysNoMore : Type 0
UnchangedSaysNoMore =
    (then now : Contents) (r : ℕ) (atom : Flat) → target_of then.bindings r ≡ None → IsUnchanged then now r → SaysMore then now atom → ¬ (name then (variable_of atom) ≡ r)

-- and their head is their least
abbrev pub UnchangedHeadIsLeast : Type 0
UnchangedHeadIsLeast =
    (then now : Contents) (r v h : ℕ) → IsShaped then → target_of then.bindings r ≡ None → IsUnchanged then now r → name now v ≡ r
    → IsHeadNow then now v h ↔ IsLeast now v h
