-- Terms noted under their keys, one after the other.
use Rattle.std.specs.Prelude.{◌≡◌, ℕ, zero, suc, ◌<◌, ◌≤◌, cond, min, ◌⊎◌, List, [], ◌∷◌, Option, Some, None, Contains, length, slice_index, slice_set}
use Rattle.indexmap.specs.IndexMap.{set_value_at}
use Rattle.std.specs.List.{AllByRecursion}
use Rattle.tree_model.specs.declared.tree.Symbol.{Symbol}
use Rattle.term_graph.specs.declared.bound.Bound.{Bound}
use Rattle.term_graph.specs.declared.term.Term.{Term as Made}
use Rattle.term_graph.specs.declared.key.Key.{Key}
use Rattle.term_graph.specs.Contents.{HasKey}
use Rattle.term_graph.specs.Keys.{sign_of, is_key_of, shared_at}
use Rattle.term_graph.specs.Good.{AreRoots, IsShared}
use Rattle.term_graph.specs.Lowering.{IsKept}
use Rattle.term_graph.specs.Fields.{Fields, bindings_of, heads_of, slot_at, rebound}
use Rattle.term_graph.specs.declared.change.Join.{Join}
use Rattle.term_graph.specs.Classes.{class_at, merged}
use Rattle.index_lists.specs.Rings.{exchanged}
use Rattle.term_graph.specs.declared.bound.Bound.TheVariants.{Variable}

-- the least of a set of terms, or none where it is empty
abbrev pub IsLeast : (ℕ → Type 0) → Option ℕ → Type 0
IsLeast P None = (t : ℕ) → ¬ P t
IsLeast P (Some m) = P m × ((t : ℕ) → P t → m ≤ t)

-- the lesser of t and what stood there
abbrev pub lowered_to : ℕ → Option ℕ → Option ℕ
lowered_to t None = Some t
lowered_to t (Some m) = Some (min t m)

-- a note of t under its key: what is then looked up
abbrev pub IsNoted : List (Key × ℕ) → List (Key × ℕ) → Key → ℕ → Type 0
IsNoted old new key t = (s : Symbol) (ks : List ℕ) → shared_at new s ks ≡ cond (is_key_of (sign_of s) ks key) (lowered_to t (shared_at old s ks)) (shared_at old s ks)

-- the value that stands at the place
abbrev pub value_at : List (Key × ℕ) → ℕ → Option ℕ
value_at [] i = None
value_at (e ∷ es) zero = Some e.1
value_at (e ∷ es) (suc i) = value_at es i

-- the value at the place stays where it is not above t, and is t else
abbrev pub IsLowered : List (Key × ℕ) → List (Key × ℕ) → ℕ → ℕ → Type 0
IsLowered old new place t = (m : ℕ) × (value_at old place ≡ Some m) × (((m ≤ t) × (new ≡ old)) ⊎ ((t < m) × (new ≡ set_value_at old place t)))

-- the variables of all keys are below n
abbrev pub AreKeysBelow : ℕ → List (Key × ℕ) → Type 0
AreKeysBelow n entries = AllByRecursion (λ (e : Key × ℕ). AllByRecursion (λ x. x < n) e.0.args.items) entries

-- the term had the key before, or is among those that moved and has it now
abbrev pub HasEither : List Bound → List Bound → List Made → List ℕ → Symbol → List ℕ → ℕ → Type 0
HasEither b b' terms moved s ks t = HasKey b terms s ks t ⊎ (Contains moved t × HasKey b' terms s ks t)

-- what the table answers, as far as the moved terms are noted
pub record AreNoted (b b' : List Bound) (terms : List Made) (entries : List (Key × ℕ)) (moved : List ℕ) : Type 0 where
  pub least : (s : Symbol) (ks : List ℕ) → AreRoots b' ks → IsLeast (HasEither b b' terms moved s ks) (shared_at entries s ks)

-- v is bound to the variable, and the moved terms are noted; all else stays
pub record IsRebound (v to : ℕ) (moved : List ℕ) (f f' : Fields) : Type 0 where
  pub same : f' ≡ record { slots = rebound v (Variable to) f.slots; classes = f.classes; terms = f.terms; cells = f.cells; next = f.next; entries = f'.entries; lowered = f'.lowered }
  pub kept : IsKept f.entries f.lowered f'.entries f'.lowered
  pub noted : (b : List Bound) → AreNoted b (slice_set (bindings_of f.slots) v (Variable to)) f.terms f.entries [] → AreNoted b (slice_set (bindings_of f.slots) v (Variable to)) f.terms f'.entries moved
  pub keys : AreKeysBelow (length (bindings_of f.slots)) f.entries → AreKeysBelow (length (bindings_of f.slots)) f'.entries

-- what the trail keeps of a root that goes under another
abbrev pub joining : ℕ → ℕ → Fields → Join
joining v w f = record {
  variable = v;
  root = w;
  before = (slot_at f.slots v).binding;
  class = class_at f.classes v;
  root_class = class_at f.classes w;
  cut = record { a = slice_index (heads_of f.slots) w; b = slice_index (heads_of f.slots) v };
  keys = length f.entries;
  lowered = length f.lowered;
}

-- v is bound to the variable, its ring is joined to that of the root w, and the table holds the leaders; what was in it can be put back
pub record IsJoined (v to w : ℕ) (f f' : Fields) : Type 0 where
  pub same : f' ≡ record {
    slots = rebound v (Variable to) f.slots;
    classes = merged v w f.classes;
    terms = f.terms;
    cells = f.cells;
    next = exchanged (slice_index (heads_of f.slots) w) (slice_index (heads_of f.slots) v) f.next;
    entries = f'.entries;
    lowered = f'.lowered;
  }
  pub kept : IsKept f.entries f.lowered f'.entries f'.lowered
  pub shared : IsShared (slice_set (bindings_of f.slots) v (Variable to)) f.terms f'.entries
