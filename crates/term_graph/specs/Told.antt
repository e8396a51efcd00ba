-- What a moment of the trail tells of the contents before it and after it.
use Rattle.std.specs.Prelude.{◌≡◌, ◌≢◌, ℕ, ◌<◌, List, length, slice_index, slice_index_or, None, false}
use Rattle.tree_model.specs.declared.tree.Symbol.{Symbol}
use Rattle.term_graph.specs.declared.bound.Bound.{Bound}
use Rattle.term_graph.specs.declared.bound.Bound.TheVariants.{Free, Variable, Term}
use Rattle.term_graph.specs.declared.change.Change.{Change}
use Rattle.term_graph.specs.declared.change.Change.TheVariants as change
use Rattle.term_graph.specs.declared.past.Past.{Past}
use Rattle.term_graph.specs.declared.past.Past.TheVariants.{Added, Interned, Termed, Joined, Marked}
use Rattle.term_graph.specs.Contents.{Contents, binding_of, target_of, root, IsLeader, IsLeast, with_variable, with_term, with_binding, with_mark}

-- one more term, of roots, under a key that no term had
pub record HasTermMore (before after : Contents) : Type 0 where
  pub symbol : Symbol
  pub keys : List ℕ
  pub roots : (i : ℕ) → i < length keys → (slice_index keys i < length before.bindings) × (target_of before.bindings (slice_index keys i) ≡ None)
  pub new : IsLeader before.bindings before.terms symbol keys None
  pub is : after ≡ with_term symbol keys before

-- v, which was free, is bound to a term
pub record IsBoundToTerm (v : ℕ) (before after : Contents) : Type 0 where
  pub term : ℕ
  pub within : v < length before.bindings
  pub term_within : term < length before.terms
  pub free : binding_of before.bindings v ≡ Free
  pub is : after ≡ with_binding v (Term term) before

-- v, a root that was bound to this, is bound to a variable with another root w; l and m were the least variables with them
pub record IsBoundToRoot (v w : ℕ) (bound : Bound) (l m : ℕ) (before after : Contents) : Type 0 where
  pub to : ℕ
  pub within : v < length before.bindings
  pub to_within : to < length before.bindings
  pub top : target_of before.bindings v ≡ None
  pub leads : root before.bindings to ≡ w
  pub apart : w ≢ v
  pub was : bound ≡ binding_of before.bindings v
  pub least : IsLeast before v l
  pub root_least : IsLeast before w m
  pub is : after ≡ with_binding v (Variable to) before

-- v, which had no mark, is marked
pub record IsNewlyMarked (v : ℕ) (before after : Contents) : Type 0 where
  pub within : v < length before.bindings
  pub bare : slice_index_or before.marks v false ≡ false
  pub is : after ≡ with_mark v before

-- so the contents after the moment come from those before it
abbrev pub Tells : Past → Contents → Contents → Type 0
Tells Added before after = after ≡ with_variable before
Tells Interned before after = HasTermMore before after
Tells (Termed v) before after = IsBoundToTerm v before after
Tells (Joined v w bound l m) before after = IsBoundToRoot v w bound l m before after
Tells (Marked v) before after = IsNewlyMarked v before after

-- what a change on the trail tells
abbrev pub past_of : Change → Past
past_of change.Added = Added
past_of change.Interned = Interned
past_of (change.Termed v) = Termed v
past_of (change.Joined j) = Joined j.variable j.root j.before j.class.least j.root_class.least
past_of (change.Marked v) = Marked v
