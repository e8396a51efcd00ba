-- What a graph holds now, and what it held at each earlier length of its trail.
use Rattle.std.specs.Prelude.{◌≡◌, ◌≢◌, ℕ, zero, suc, ◌+◌, ◌<◌, ◌≤◌, Bool, true, false, List, [], ◌∷◌, ◌++◌, length, map, take, slice_index_or, slice_set, Option, Some, None, All, Contains, ◌↔◌, if◌then◌else◌, cond, nat_eq, ◌||◌, ◌⊎◌}
use Rattle.lists.specs.Distinct.{IsDistinct}
use Rattle.tree_model.specs.declared.tree.Symbol.{Symbol}
use Rattle.tree_model.specs.declared.tree.Symbol.TheVariants as symbols
use Rattle.term_graph.specs.declared.bound.Bound.{Bound}
use Rattle.term_graph.specs.declared.bound.Bound.TheVariants.{Free, Variable, Term}
use Rattle.term_graph.specs.declared.term.Term.{Term as Made}

-- of each variable what it is bound to, whether it is marked, and the terms that mention a variable with its root, once per mention
pub record Contents : Type 0 where
  pub bindings : List Bound
  pub marks : List Bool
  pub terms : List Made
  pub uses : List (List ℕ)

-- what a call did
pub data Step : Type 0 where
  Grew : Step
  Interns : Step
  BoundAt : ℕ → Step
  MarkedAt : ℕ → Step

-- what a call did, and the contents before it
pub record Moment : Type 0 where
  pub step : Step
  pub before : Contents

pub record History : Type 0 where
  pub contents : Contents
  pub trail : List Moment

abbrev pub empty : History
empty = record { contents = record { bindings = []; marks = []; terms = []; uses = [] }; trail = [] }

abbrev pub grown : Step → Contents → History → History
grown step c h = record { contents = c; trail = h.trail ++ record { step = step; before = h.contents } ∷ [] }

-- the contents at a length of the trail, where c are those now
abbrev pub contents_at : List Moment → Contents → ℕ → Contents
contents_at [] c m = c
contents_at (x ∷ xs) c zero = x.before
contents_at (x ∷ xs) c (suc m) = contents_at xs c m

abbrev pub back_to : ℕ → History → History
back_to m h = record { contents = contents_at h.trail h.contents m; trail = take m h.trail }

-- later is one call further
abbrev pub IsGrown : History → History → Type 0
IsGrown earlier later = (step : Step) × (c : Contents) × (later ≡ grown step c earlier)

-- what is taken back to the length of an earlier trail is the earlier graph
abbrev pub Grows : History → History → Type 0
Grows earlier now = (length earlier.trail ≤ length now.trail) × (back_to (length earlier.trail) now ≡ earlier)

abbrev pub binding_of : List Bound → ℕ → Bound
binding_of bindings v = slice_index_or bindings v Free

-- the variable that a binding leads to
abbrev pub target : Bound → Option ℕ
target Free = None
target (Variable w) = Some w
target (Term t) = None

abbrev pub target_of : List Bound → ℕ → Option ℕ
target_of bindings v = target (binding_of bindings v)

-- the variables along the bindings from v end at r
pub data Leads (bindings : List Bound) : ℕ → ℕ → Type 0 where
  stays : {v : ℕ} → target_of bindings v ≡ None → Leads bindings v v
  goes : {v w r : ℕ} → target_of bindings v ≡ Some w → Leads bindings w r → Leads bindings v r

abbrev pub onward : Option ℕ → ℕ → ℕ
onward None v = v
onward (Some w) v = w

-- n steps along the bindings
abbrev pub follow : ℕ → List Bound → ℕ → ℕ
follow zero bindings v = v
follow (suc n) bindings v = follow n bindings (onward (target_of bindings v) v)

-- the last variable along the bindings
abbrev pub root : List Bound → ℕ → ℕ
root bindings v = follow (length bindings) bindings v

-- bindings lead to variables, and each way along them ends
pub record IsForest (bindings : List Bound) : Type 0 where
  pub within : (v w : ℕ) → target_of bindings v ≡ Some w → w < length bindings
  pub ends : (v : ℕ) → target_of bindings (root bindings v) ≡ None

abbrev pub no_term : Made
no_term = record { symbol = symbols.Named 0; args = [] }

abbrev pub term_at : List Made → ℕ → Made
term_at terms t = slice_index_or terms t no_term

-- numbers of variables and terms are of those there are, terms have at most eight arguments, and bindings end
pub record IsWellFormed (c : Contents) : Type 0 where
  pub forest : IsForest c.bindings
  pub sizes : length c.marks ≡ length c.bindings
  pub bound_terms : (v t : ℕ) → binding_of c.bindings v ≡ Term t → t < length c.terms
  pub arguments : (t : ℕ) → t < length c.terms → All (λ x. x < length c.bindings) (term_at c.terms t).args
  pub few : (t : ℕ) → t < length c.terms → length (term_at c.terms t).args ≤ 8

-- f at each number below n
abbrev pub each : {X : Type 0} → ℕ → (ℕ → X) → List X
each zero f = []
each (suc n) f = each n f ++ f n ∷ []

abbrev pub uses_at : Contents → ℕ → List ℕ
uses_at c u = slice_index_or c.uses u []

-- the term has this symbol, and these are the roots of its arguments
pub record HasKey (bindings : List Bound) (terms : List Made) (symbol : Symbol) (keys : List ℕ) (t : ℕ) : Type 0 where
  pub within : t < length terms
  pub sign : (term_at terms t).symbol ≡ symbol
  pub args : map (root bindings) (term_at terms t).args ≡ keys

-- the least term with this symbol and these roots, or none where no term has them
abbrev pub IsLeader : List Bound → List Made → Symbol → List ℕ → Option ℕ → Type 0
IsLeader bindings terms symbol keys None = (t : ℕ) → ¬ HasKey bindings terms symbol keys t
IsLeader bindings terms symbol keys (Some m) = HasKey bindings terms symbol keys m × ((t : ℕ) → HasKey bindings terms symbol keys t → m ≤ t)

-- the terms that mention a variable with this root, each once
pub record AreUsers (bindings : List Bound) (terms : List Made) (r : ℕ) (list : List ℕ) : Type 0 where
  pub distinct : IsDistinct list
  pub each : (t : ℕ) → Contains list t ↔ ((t < length terms) × Contains (map (root bindings) (term_at terms t).args) r)

-- l is the least variable with the root of v
pub record IsLeast (c : Contents) (v l : ℕ) : Type 0 where
  pub same : root c.bindings l ≡ root c.bindings v
  pub least : (u : ℕ) → root c.bindings u ≡ root c.bindings v → l ≤ u

-- the variables with this root, each once
pub record AreMembers (bindings : List Bound) (r : ℕ) (list : List ℕ) : Type 0 where
  pub distinct : IsDistinct list
  pub each : (u : ℕ) → Contains list u ↔ ((u < length bindings) × (root bindings u ≡ r))

-- n is the number of the variables with the root of v and of the mentions of these
pub record IsWeight (c : Contents) (v n : ℕ) : Type 0 where
  pub members : List ℕ
  pub are : AreMembers c.bindings (root c.bindings v) members
  pub counted : n ≡ length members + length (uses_at c v)

abbrev pub with_variable : Contents → Contents
with_variable c = record { bindings = c.bindings ++ Free ∷ []; marks = c.marks ++ false ∷ []; terms = c.terms; uses = c.uses ++ [] ∷ [] }

abbrev pub with_mark : ℕ → Contents → Contents
with_mark v c = record { bindings = c.bindings; marks = slice_set c.marks v true; terms = c.terms; uses = c.uses }

-- t once for each of these that is r
abbrev pub once_for : ℕ → ℕ → List ℕ → List ℕ
once_for r t [] = []
once_for r t (k ∷ ks) = cond (nat_eq k r) (t ∷ once_for r t ks) (once_for r t ks)

-- one term more, in the uses of each root among its arguments once per mention
abbrev pub with_term : Symbol → List ℕ → Contents → Contents
with_term symbol keys c = record {
  bindings = c.bindings;
  marks = c.marks;
  terms = c.terms ++ record { symbol = symbol; args = keys } ∷ [];
  uses = each (length c.bindings) (λ u. once_for (root c.bindings u) (length c.terms) keys ++ uses_at c u);
}

-- the least term with this symbol and these roots, and nothing is done; or a new one, where there is none
abbrev pub IsInterned : History → History → Symbol → List ℕ → ℕ → Type 0
IsInterned old new symbol keys t =
    (IsLeader old.contents.bindings old.contents.terms symbol keys (Some t) × (new ≡ old))
    ⊎ (IsLeader old.contents.bindings old.contents.terms symbol keys None × (t ≡ length old.contents.terms) × (new ≡ grown Interns (with_term symbol keys old.contents) old))

-- v is marked: nothing is done where it was
abbrev pub marked : ℕ → History → History
marked v h = if slice_index_or h.contents.marks v false then h else grown (MarkedAt v) (with_mark v h.contents) h

-- the uses of v and w are joined, for each variable that has one of them as its root
unfoldable pub joined_uses : ℕ → ℕ → Contents → List (List ℕ)
joined_uses v w c = each (length c.bindings) (λ u. cond (nat_eq (root c.bindings u) v || nat_eq (root c.bindings u) w) (uses_at c v ++ uses_at c w) (uses_at c u))

abbrev pub uses_then : ℕ → Bound → Contents → List (List ℕ)
uses_then v Free c = c.uses
uses_then v (Variable x) c = joined_uses v (root c.bindings x) c
uses_then v (Term t) c = c.uses

-- v is bound, and its uses are joined to those of the root of a variable
abbrev pub with_binding : ℕ → Bound → Contents → Contents
with_binding v to c = record { bindings = slice_set c.bindings v to; marks = c.marks; terms = c.terms; uses = uses_then v to c }

-- a root v may be bound to a variable with another root, or to its first term
abbrev pub MayBind : Contents → ℕ → Bound → Type 0
MayBind c v Free = ⊥
MayBind c v (Variable x) = (x < length c.bindings) × (root c.bindings x ≢ v)
MayBind c v (Term t) = (t < length c.terms) × (binding_of c.bindings v ≡ Free)

-- where a root leads after v is bound
abbrev pub root_then : List Bound → ℕ → Bound → ℕ → ℕ
root_then bindings v Free r = r
root_then bindings v (Variable x) r = cond (nat_eq r v) (root bindings x) r
root_then bindings v (Term t) r = r
