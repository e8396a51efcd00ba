-- What is true of the fields of every graph.
use Rattle.std.specs.Prelude.{◌≡◌, ◌<◌, ◌≤◌, ℕ, suc, Option, Some, None, List, [], ◌∷◌, ◌++◌, ◌⊎◌, Contains, length, slice_index, slice_index_or}
use Rattle.std.specs.List.{AllByRecursion}
use Rattle.tree_model.specs.declared.tree.Symbol.{Symbol}
use Rattle.term_graph.specs.declared.bound.Bound.{Bound}
use Rattle.term_graph.specs.declared.bound.Bound.TheVariants.{Term}
use Rattle.term_graph.specs.declared.term.Term.{Term as Made}
use Rattle.term_graph.specs.declared.parts.Mention.{Mention}
use Rattle.term_graph.specs.declared.change.Change.{Change}
use Rattle.term_graph.specs.declared.change.Change.TheVariants.{Added, Interned, Termed, Joined, Marked}
use Rattle.term_graph.specs.declared.key.Key.{Key}
use Rattle.term_graph.specs.declared.class.Class.{Class}
use Rattle.term_graph.specs.Classes.{class_at}
use Rattle.term_graph.specs.Contents.{IsForest, root, target_of, binding_of, term_at, IsLeader}
use Rattle.term_graph.specs.Keys.{shared_at, sign_of}
use Rattle.term_graph.specs.Told.{Tells, past_of}
use Rattle.term_graph.specs.Fields.{Fields, bindings_of, heads_of, owners_of, mentions_of, round_of, seen, undone, last_args, last_count, made}
use Rattle.index_lists.specs.Rings.{IsRound, IsInside}

-- the ring of the root's own cell has exactly the cells of the variables with this root, and of the mentions of these
pub record IsClass (bindings : List Bound) (heads owners next : List ℕ) (r : ℕ) : Type 0 where
  pub rest : List ℕ
  pub round : IsRound next (slice_index heads r) rest
  pub owned : AllByRecursion (λ c. root bindings (slice_index owners c) ≡ r) rest
  pub whole : (c : ℕ) → c < length next → root bindings (slice_index owners c) ≡ r → Contains (slice_index heads r ∷ rest) c

-- each variable has a cell of its own, each cell is of a variable, and the cells of a class are one ring
pub record AreRinged (bindings : List Bound) (heads owners next : List ℕ) : Type 0 where
  pub forest : IsForest bindings
  pub variables : length heads ≡ length bindings
  pub cells : length owners ≡ length next
  pub inside : IsInside next
  pub head : (v : ℕ) → v < length bindings → (slice_index heads v < length next) × (slice_index owners (slice_index heads v) ≡ v)
  pub owner : (c : ℕ) → c < length next → slice_index owners c < length bindings
  pub classes : (r : ℕ) → r < length bindings → target_of bindings r ≡ None → IsClass bindings heads owners next r

-- of each root the least variable with it is kept, and how many cells its ring has
pub record AreMeasured (bindings : List Bound) (heads next : List ℕ) (classes : List Class) : Type 0 where
  pub count : length classes ≡ length bindings
  pub same : (r : ℕ) → r < length bindings → target_of bindings r ≡ None → root bindings (class_at classes r).least ≡ r
  pub least : (r u : ℕ) → r < length bindings → target_of bindings r ≡ None → root bindings u ≡ r → (class_at classes r).least ≤ u
  pub weight : (r : ℕ) → r < length bindings → target_of bindings r ≡ None → (class_at classes r).weight ≡ suc (length (round_of next (slice_index heads r)))

-- the own cells mention nothing, each other cell is a mention, and each argument of a term has one cell
pub record AreMentioned (heads owners : List ℕ) (terms : List Made) (mentions : List (Option Mention)) : Type 0 where
  pub cells : length mentions ≡ length owners
  pub own : (v : ℕ) → v < length heads → slice_index_or mentions (slice_index heads v) None ≡ None
  pub bare : (c : ℕ) → c < length owners → slice_index_or mentions c None ≡ None → slice_index heads (slice_index owners c) ≡ c
  pub right : (c : ℕ) (m : Mention) → slice_index_or mentions c None ≡ Some m
      → (m.term < length terms) × (m.place < length (term_at terms m.term).args) × (slice_index (term_at terms m.term).args m.place ≡ slice_index owners c)
  pub all : (t i : ℕ) → t < length terms → i < length (term_at terms t).args
      → (c : ℕ) × (c < length owners) × (slice_index_or mentions c None ≡ Some (record { term = t; place = i }))
  pub once : (c d : ℕ) (m : Mention) → slice_index_or mentions c None ≡ Some m → slice_index_or mentions d None ≡ Some m → c ≡ d

-- each of these is a variable that is its own root
abbrev pub AreRoots : List Bound → List ℕ → Type 0
AreRoots bindings keys = AllByRecursion (λ x. (x < length bindings) × (target_of bindings x ≡ None)) keys

-- what stands under roots is the least term with them
pub record IsShared (bindings : List Bound) (terms : List Made) (entries : List (Key × ℕ)) : Type 0 where
  pub leaders : (symbol : Symbol) (keys : List ℕ) → AreRoots bindings keys → IsLeader bindings terms symbol keys (shared_at entries symbol keys)
  pub keys : AllByRecursion (λ (e : Key × ℕ). AllByRecursion (λ x. x < length bindings) e.0.args.items) entries

pub record IsGood (f : Fields) : Type 0 where
  pub ringed : AreRinged (bindings_of f.slots) (heads_of f.slots) (owners_of f.cells) f.next
  pub measured : AreMeasured (bindings_of f.slots) (heads_of f.slots) f.next f.classes
  pub mentioned : AreMentioned (heads_of f.slots) (owners_of f.cells) f.terms (mentions_of f.cells)
  pub shared : IsShared (bindings_of f.slots) f.terms f.entries
  pub bound : (v t : ℕ) → binding_of (bindings_of f.slots) v ≡ Term t → t < length f.terms
  pub few : (t : ℕ) → t < length f.terms → length (term_at f.terms t).args ≤ 8

-- a change that can be taken back
abbrev pub Fits : Change → Fields → Type 0
Fits Added f = (0 < length f.slots) × (0 < length f.classes) × (0 < length f.cells) × (0 < length f.next)
Fits Interned f = (0 < length f.terms) × (0 < length f.entries) × (last_count f.terms ≤ length f.cells) × (last_count f.terms ≤ length f.next) × AllByRecursion (λ r. r < length f.classes) (last_args f.terms)
Fits (Termed v) f = v < length f.slots
Fits (Joined j) f = (j.variable < length f.slots) × (j.root < length f.classes) × (j.cut.a < length f.next) × (j.cut.b < length f.next) × (j.lowered ≤ length f.lowered)
Fits (Marked v) f = v < length f.slots

-- the fields are good now and at each earlier length, and each change tells what it did
abbrev pub AreGood : List Change → Fields → Type 0
AreGood [] f = IsGood f
AreGood (c ∷ cs) f = IsGood f × Fits c f × Tells (past_of c) (seen (undone c f)) (seen f) × AreGood cs (undone c f)

-- on the fields: the least term with the symbol and the roots, and nothing is done; or a new one under a key that was not there
abbrev pub IsInternedIn : Fields → Fields → List Change → List Change → Symbol → List ℕ → ℕ → Type 0
IsInternedIn f f' cs ds symbol keys t =
    ((shared_at f.entries symbol keys ≡ Some t) × (f' ≡ f) × (ds ≡ cs))
    ⊎ ((shared_at f.entries symbol keys ≡ None) × (t ≡ length f.terms)
    × ((key : Key) × (key.sign ≡ sign_of symbol) × (key.args.items ≡ keys) × (f' ≡ made (record { symbol = symbol; args = keys }) key f)) × (ds ≡ cs ++ Interned ∷ []))
