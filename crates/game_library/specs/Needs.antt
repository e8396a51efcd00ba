-- Which entries a formula needs, and how that is marked.
use Rattle.std.specs.Prelude.{◌≡◌, ℕ, ◌<◌, ◌≤◌, ◌⊎◌, ◌||◌, Bool, true, false, nat_lt, max, List, [], ◌∷◌, ◌++◌, length, replicate, slice_get, Contains, Option, Some, None}
use Rattle.tree_model.specs.declared.kind.Kind.TheVariants as kind
use Rattle.tree_model.specs.Signatures.{Signature, declared_at}
use Rattle.formula_ast.specs.declared.file.File.{File}
use Rattle.formula_ast.specs.declared.pred.Pred.{Pred}
use Rattle.formula_ast.specs.Forms.{Form, form_of, always, never, equal, differ, finite, call, win, no, and, or, imp, iff, exists, forall}
use Rattle.flattening.specs.declared.solved.Key.{Key}
use Rattle.flattening.specs.declared.solved.Key.TheVariants.{Call, Win}
use Rattle.game_library.specs.declared.marks.Mark.{Mark}

-- ---- keys

-- the keys of the calls and wins of a formula, as often as they stand in it
abbrev pub asked_keys : Form → List Key
asked_keys always = []
asked_keys never = []
asked_keys (equal t s) = []
asked_keys (differ t s) = []
asked_keys (finite t) = []
asked_keys (call p ts) = Call p ∷ []
asked_keys (win p k t) = Win p k ∷ []
asked_keys (no f) = asked_keys f
asked_keys (and f g) = asked_keys f ++ asked_keys g
asked_keys (or f g) = asked_keys f ++ asked_keys g
asked_keys (imp f g) = asked_keys f ++ asked_keys g
asked_keys (iff f g) = asked_keys f ++ asked_keys g
asked_keys (exists x f) = asked_keys f
asked_keys (forall x f) = asked_keys f

-- the place of the predicate that a key names
abbrev pub place_of : Key → ℕ
place_of (Call p) = p
place_of (Win p k) = p

-- The first key needs the second: each needs itself, and a win within some moves needs the predicate and the wins within
-- fewer.
abbrev pub NeedsKey : Key → Key → Type 0
NeedsKey (Call p) (Call q) = p ≡ q
NeedsKey (Call p) (Win q j) = ⊥
NeedsKey (Win p k) (Call q) = (p ≡ q) × (0 < k)
NeedsKey (Win p k) (Win q j) = (p ≡ q) × (j ≤ k)

-- the predicate is declared, and has two parameters where a win is asked for
abbrev pub IsDeclared : Signature → Key → Type 0
IsDeclared σ (Call p) = (n : ℕ) × (declared_at σ p ≡ Some (kind.Pred, n))
IsDeclared σ (Win p k) = declared_at σ p ≡ Some (kind.Pred, 2)

-- ---- marks

-- there is a move
abbrev pub has_moves : Option ℕ → Bool
has_moves None = false
has_moves (Some most) = nat_lt 0 most

-- the predicate has to be solved
abbrev pub is_called : Mark → Bool
is_called mark = mark.called || has_moves mark.moves

-- the mark says that the key is needed, which names the mark's predicate
abbrev pub Covers : Mark → Key → Type 0
Covers mark (Call p) = is_called mark ≡ true
Covers mark (Win p k) = (most : ℕ) × (mark.moves ≡ Some most) × (k ≤ most)

-- the greater number of moves
abbrev pub greatest : Option ℕ → ℕ → ℕ
greatest None moves = moves
greatest (Some most) moves = max most moves

-- the mark where the key is asked for besides
abbrev pub with_key : Mark → Key → Mark
with_key mark (Call p) = record { called = true; moves = mark.moves }
with_key mark (Win p k) = record { called = mark.called; moves = Some (greatest mark.moves k) }

-- nothing is asked of so many places
abbrev pub no_marks : ℕ → List Mark
no_marks places = replicate places (record { called = false; moves = None })

-- the mark at its place says that the key is needed
abbrev pub IsMarked : List Mark → Key → Type 0
IsMarked marks key = (mark : Mark) × (slice_get marks (place_of key) ≡ Some mark) × Covers mark key

-- the new marks are the old ones, with what these keys need
pub record Adds (old new : List Mark) (keys : List Key) : Type 0 where
  pub size : length new ≡ length old
  pub kept : (key : Key) → IsMarked old key → IsMarked new key
  pub marked : (key : Key) → Contains keys key → place_of key < length old → IsMarked new key
  pub only : (key : Key) → IsMarked new key → IsMarked old key ⊎ ((asked : Key) × Contains keys asked × NeedsKey asked key)

-- the marks say what the formula needs in the file
pub record AreNeeded (file : File) (f : Form) (marks : List Mark) : Type 0 where
  pub size : length marks ≡ length file.signature
  pub asked : (key : Key) → Contains (asked_keys f) key → IsMarked marks key
  -- and what the bodies of the predicates need that have to be solved
  pub bodies : (pred : Pred) → Contains file.preds pred → IsMarked marks (Call pred.place)
      → (key : Key) → Contains (asked_keys (form_of pred.body)) key → IsMarked marks key
  pub declared : (key : Key) → IsMarked marks key → IsDeclared file.signature key
