-- What was there before, kept beside the present contents, and read off it.
use Rattle.std.specs.Prelude.{◌≡◌, ℕ, ◌≤◌, Bool, false, List, slice_index_or, Contains, None}
use Rattle.term_graph.specs.declared.bound.Bound.{Bound}
use Rattle.term_graph.specs.declared.bound.Bound.TheVariants.{Free, Term}
use Rattle.term_graph.specs.Contents.{Contents, binding_of, target_of}
use Rattle.settled_facts.specs.Settled.{name, IsShaped}
use Rattle.settled_facts.specs.Forms.{IsLeast}
use Rattle.settled_facts.specs.Changes.{IsJoin, IsTerming, IsMarking, IsChange, IsUnchanged}
use Rattle.settled_facts.specs.Additions.{IsHeadNow}

-- what a variable was bound to, whether it was marked, and the least variable with its name
pub record Earlier : Type 0 where
  pub binding : Bound
  pub finite : Bool
  pub least : ℕ

-- so it is for r in the contents; the least one counts at roots
pub record IsAt (c : Contents) (r : ℕ) (shown : Earlier) : Type 0 where
  pub binding : shown.binding ≡ binding_of c.bindings r
  pub finite : shown.finite ≡ slice_index_or c.marks r false
  pub least : target_of c.bindings r ≡ None → IsLeast c r shown.least

-- and for each variable
abbrev pub Shows : Contents → (ℕ → Earlier) → Type 0
Shows c shown = (r : ℕ) → IsAt c r (shown r)

-- what shows the contents after a change shows those before it where only the touched ones are shown anew
abbrev pub OverlayReads : Type 0
OverlayReads =
    (before after : Contents) (touched : List ℕ) (old new : ℕ → Earlier) → IsShaped before → IsChange before after touched → Shows after new
    → ((r : ℕ) → ¬ Contains touched r → old r ≡ new r) → ((r : ℕ) → Contains touched r → IsAt before r (old r)) → Shows before old

-- what was bound to a term was free
abbrev pub TermTakenBack : Type 0
TermTakenBack =
    (before after : Contents) (v t : ℕ) (new : Earlier) → IsShaped before → IsTerming before after v t → IsAt after v new
    → IsAt before v (record { binding = Free; finite = new.finite; least = new.least })

-- what was marked had no mark
abbrev pub MarkTakenBack : Type 0
MarkTakenBack =
    (before after : Contents) (v : ℕ) (new : Earlier) → IsMarking before after v → IsAt after v new
    → IsAt before v (record { binding = new.binding; finite = false; least = new.least })

-- the two of a join had the binding and the least ones that are told, and their marks
abbrev pub JoinTakenBack : Type 0
JoinTakenBack =
    (before after : Contents) (v w l m : ℕ) (one other : Earlier) → IsShaped before → IsJoin before after v w
    → IsAt after v one → IsAt after w other → IsLeast before v l → IsLeast before w m
    → IsAt before v (record { binding = binding_of before.bindings v; finite = one.finite; least = l })
    × IsAt before w (record { binding = other.binding; finite = other.finite; least = m })

-- the root had a term
abbrev pub HadOne : Earlier → Type 0
HadOne e = (t : ℕ) × (e.binding ≡ Term t)

module _ (now : Contents) (touched : List ℕ) (shown : ℕ → Earlier) where
  -- a touched root whose variables now have the name of v
  pub record IsTouched (v r : ℕ) : Type 0 where
    pub listed : Contains touched r
    pub same : name now r ≡ name now v

  -- the least of the least ones that touched roots of the class had: of those with a term, else of the free ones
  pub data IsHeadAmong (v h : ℕ) : Type 0 where
    by_term : (r : ℕ) → IsTouched v r → HadOne (shown r) → h ≡ (shown r).least
        → ((q : ℕ) → IsTouched v q → HadOne (shown q) → h ≤ (shown q).least) → IsHeadAmong v h
    by_free : ((q : ℕ) → IsTouched v q → ¬ HadOne (shown q)) → (r : ℕ) → IsTouched v r → h ≡ (shown r).least
        → ((q : ℕ) → IsTouched v q → h ≤ (shown q).least) → IsHeadAmong v h

-- where all but the touched roots are unchanged, this is the head of a class that has a touched one
abbrev pub HeadIsAmongTouched : Type 0
HeadIsAmongTouched =
    (then now : Contents) (touched : List ℕ) (shown : ℕ → Earlier) (v h : ℕ) → IsShaped then → Shows then shown
    → ((r : ℕ) → Contains touched r → target_of then.bindings r ≡ None)
    → ((r : ℕ) → target_of then.bindings r ≡ None → ¬ Contains touched r → IsUnchanged then now r)
    → ((u : ℕ) → name now u ≡ name now (name then u))
    → (some : ℕ) → IsTouched now touched shown v some
    → IsHeadAmong now touched shown v h → IsHeadNow then now v h
