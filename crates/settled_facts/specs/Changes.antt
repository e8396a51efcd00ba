-- Changes of contents, one at a time, and what stays through them.
use Rattle.std.specs.Prelude.{◌≡◌, ℕ, ◌<◌, ◌≤◌, true, false, List, [], ◌∷◌, ◌++◌, length, slice_index_or, slice_set, Contains, None, ◌↔◌}
use Rattle.term_graph.specs.declared.bound.Bound.TheVariants.{Variable, Term}
use Rattle.term_graph.specs.declared.term.Term.{Term as Made}
use Rattle.term_graph.specs.Contents.{Contents, binding_of, target_of, term_at}
use Rattle.settled_facts.specs.Settled.{name, IsFree, IsMarked, IsShaped}

-- v, which is a root, is bound to a variable with another root w, which has a term if v has one
pub record IsJoin (before after : Contents) (v w : ℕ) : Type 0 where
  pub to : ℕ
  pub bindings : after.bindings ≡ slice_set before.bindings v (Variable to)
  pub marks : after.marks ≡ before.marks
  pub terms : after.terms ≡ before.terms
  pub root : target_of before.bindings v ≡ None
  pub within : v < length before.bindings
  pub to_within : to < length before.bindings
  pub leads : name before to ≡ w
  pub apart : ¬ (w ≡ v)
  pub keeps : IsFree before w → IsFree before v

-- v, which is free, is bound to the term
pub record IsTerming (before after : Contents) (v t : ℕ) : Type 0 where
  pub bindings : after.bindings ≡ slice_set before.bindings v (Term t)
  pub marks : after.marks ≡ before.marks
  pub terms : after.terms ≡ before.terms
  pub free : IsFree before v
  pub within : v < length before.bindings
  pub term_within : t < length before.terms

-- v, which is free and has no mark, is marked
pub record IsMarking (before after : Contents) (v : ℕ) : Type 0 where
  pub bindings : after.bindings ≡ before.bindings
  pub marks : after.marks ≡ slice_set before.marks v true
  pub terms : after.terms ≡ before.terms
  pub free : IsFree before v
  pub bare : ¬ IsMarked before v
  pub within : v < length before.bindings

-- there is a term more
pub record IsInterning (before after : Contents) : Type 0 where
  pub term : Made
  pub bindings : after.bindings ≡ before.bindings
  pub marks : after.marks ≡ before.marks
  pub terms : after.terms ≡ before.terms ++ term ∷ []
  pub arguments : (x : ℕ) → Contains term.args x → x < length before.bindings

-- one change, and the roots that it touches
pub data IsChange (before after : Contents) (touched : List ℕ) : Type 0 where
  joined : (v w : ℕ) → touched ≡ v ∷ w ∷ [] → IsJoin before after v w → IsChange before after touched
  termed : (v t : ℕ) → touched ≡ v ∷ [] → IsTerming before after v t → IsChange before after touched
  marked : (v : ℕ) → touched ≡ v ∷ [] → IsMarking before after v → IsChange before after touched
  interned : touched ≡ [] → IsInterning before after → IsChange before after touched

-- more roots are marked, and nothing else is changed
pub record IsMoreMarked (old new : Contents) : Type 0 where
  pub bindings : new.bindings ≡ old.bindings
  pub terms : new.terms ≡ old.terms
  pub marks : (r : ℕ) → IsMarked old r → IsMarked new r

-- Variables that had one name have one, no root comes back, each class that is free was free, and no mark or term goes.
pub record IsLater (then now : Contents) : Type 0 where
  pub variables : length now.bindings ≡ length then.bindings
  pub names : (u : ℕ) → name now u ≡ name now (name then u)
  pub roots : (r : ℕ) → target_of now.bindings r ≡ None → target_of then.bindings r ≡ None
  pub free : (v : ℕ) → IsFree now (name now v) → IsFree then (name then v)
  pub marks : (r : ℕ) → IsMarked then r → IsMarked now r
  pub count : length then.terms ≤ length now.terms
  pub terms : (t : ℕ) → t < length then.terms → term_at now.terms t ≡ term_at then.terms t

-- the root r has the variables, the binding and the mark that it had
pub record IsUnchanged (then now : Contents) (r : ℕ) : Type 0 where
  pub class : (u : ℕ) → (name now u ≡ r) ↔ (name then u ≡ r)
  pub binding : binding_of now.bindings r ≡ binding_of then.bindings r
  pub mark : slice_index_or now.marks r false ≡ slice_index_or then.marks r false

-- each variable that was free is free, and has no new mark
abbrev pub FreeStay : Contents → Contents → Type 0
FreeStay then now = (r : ℕ) → IsFree then r → IsFree now r × (IsMarked now r → IsMarked then r)

-- after a join the variables with the name v have the name w, and all others the name that they had
abbrev pub JoinRenames : Type 0
JoinRenames =
    (before after : Contents) (v w u : ℕ) → IsShaped before → IsJoin before after v w
    → (name before u ≡ v → name after u ≡ w) × (¬ (name before u ≡ v) → name after u ≡ name before u)

abbrev pub ChangeKeepsShape : Type 0
ChangeKeepsShape = (before after : Contents) (touched : List ℕ) → IsShaped before → IsChange before after touched → IsShaped after

abbrev pub ChangeIsLater : Type 0
ChangeIsLater = (before after : Contents) (touched : List ℕ) → IsShaped before → IsChange before after touched → IsLater before after

abbrev pub LaterIsTransitive : Type 0
LaterIsTransitive = (one two three : Contents) → IsLater one two → IsLater two three → IsLater one three

-- what a change does not touch it does not change
abbrev pub UntouchedIsUnchanged : Type 0
UntouchedIsUnchanged =
    (before after : Contents) (touched : List ℕ) (r : ℕ) → IsShaped before → IsChange before after touched → ¬ Contains touched r
    → IsUnchanged before after r

abbrev pub UnchangedIsTransitive : Type 0
UnchangedIsTransitive = (one two three : Contents) (r : ℕ) → IsUnchanged one two r → IsUnchanged two three r → IsUnchanged one three r

-- what a change touches was a root
abbrev pub TouchedWasRoot : Type 0
TouchedWasRoot =
    (before after : Contents) (touched : List ℕ) (r : ℕ) → IsShaped before → IsChange before after touched → Contains touched r
    → target_of before.bindings r ≡ None

-- the change binds a free variable or marks it
pub data TakesFree (before after : Contents) : Type 0 where
  by_join : (v w : ℕ) → IsJoin before after v w → IsFree before v → TakesFree before after
  by_term : (v t : ℕ) → IsTerming before after v t → TakesFree before after
  by_mark : (v : ℕ) → IsMarking before after v → TakesFree before after

-- free variables stay free and get no mark exactly where no change takes one
abbrev pub FreeStayUnlessTaken : Type 0
FreeStayUnlessTaken =
    (then before after : Contents) (touched : List ℕ) → IsShaped before → IsLater then before → IsChange before after touched
    → FreeStay then after ↔ (FreeStay then before × (¬ TakesFree before after))
