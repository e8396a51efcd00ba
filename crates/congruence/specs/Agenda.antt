-- What waits to be joined in a graph of terms, and what holds meanwhile.
use Rattle.std.specs.Prelude.{◌≡◌, ℕ, ◌<◌, List, [], length, map, slice_index, Contains}
use Rattle.tree_model.specs.declared.tree.Symbol.{Symbol}
use Rattle.flat_form.specs.declared.atom.Flat.{Flat}
use Rattle.flat_form.specs.declared.atom.Flat.TheVariants.{VarVar, VarTerm}
use Rattle.flat_form.specs.Classes.{Class}
use Rattle.term_graph.specs.declared.bound.Bound.TheVariants.{Term}
use Rattle.term_graph.specs.Contents.{Contents, binding_of, term_at}
use Rattle.settled_facts.specs.Settled.{name, Follows}

-- the variable that the term was bound to first
abbrev pub owner : List ℕ → ℕ → ℕ
owner owners t = slice_index owners t

-- as many numbers on both sides, and those at one place are related
abbrev pub Pairwise : (ℕ → ℕ → Type 0) → List ℕ → List ℕ → Type 0
Pairwise R xs ys = (length xs ≡ length ys) × ((i : ℕ) → i < length xs → R (slice_index xs i) (slice_index ys i))

-- what waits: variables that are to have one class, and terms that have come to have one key
pub record Agenda : Type 0 where
  pub equal : List (ℕ × ℕ)
  pub alike : List (ℕ × ℕ)

abbrev pub idle : Agenda
idle = record { equal = []; alike = [] }

-- two terms have one symbol, and the names of their arguments are the same
pub record AreAlike (c : Contents) (t m : ℕ) : Type 0 where
  pub left : t < length c.terms
  pub right : m < length c.terms
  pub sign : (term_at c.terms t).symbol ≡ (term_at c.terms m).symbol
  pub args : map (name c) (term_at c.terms t).args ≡ map (name c) (term_at c.terms m).args

-- an atom has a term with this symbol on its right side, its left side is of the class of v, and so are the arguments
pub record IsBacked (atoms : List Flat) (v : ℕ) (symbol : Symbol) (xs : List ℕ) : Type 0 where
  pub left : ℕ
  pub right : List ℕ
  pub stands : Contains atoms (VarTerm left symbol right)
  pub equal : Class atoms left v
  pub args : Pairwise (Class atoms) right xs

module _ (c : Contents) (owners : List ℕ) (a : Agenda) where
  -- u and v have one name, or will have once what waits is joined
  pub data Joins : ℕ → ℕ → Type 0 where
    named : {u v : ℕ} → name c u ≡ name c v → Joins u v
    back : {u v : ℕ} → Joins u v → Joins v u
    through : {u v w : ℕ} → Joins u v → Joins v w → Joins u w
    equated : {u v : ℕ} → Contains a.equal (u, v) → Joins u v
    congruent : {u v t m : ℕ} → Contains a.alike (t, m) → owner owners t ≡ u → owner owners m ≡ v → Joins u v

  -- the class of v has a term with this symbol and these arguments, or will have it
  pub record HasTerm (v : ℕ) (symbol : Symbol) (xs : List ℕ) : Type 0 where
    pub of : ℕ
    pub joins : Joins of v
    pub term : ℕ
    pub bound : binding_of c.bindings (name c of) ≡ Term term
    pub sign : (term_at c.terms term).symbol ≡ symbol
    pub args : Pairwise Joins (term_at c.terms term).args xs

  -- nothing is said, and nothing waits, that the atoms do not make equal
  pub record IsSound (atoms : List Flat) : Type 0 where
    pub follows : Follows c atoms
    pub equal : (u v : ℕ) → Contains a.equal (u, v) → Class atoms u v
    pub alike : (t m : ℕ) → Contains a.alike (t, m) → Class atoms (owner owners t) (owner owners m)
    pub terms : (t : ℕ) → t < length c.terms → IsBacked atoms (owner owners t) (term_at c.terms t).symbol (term_at c.terms t).args

  -- all that the atoms make equal has one name, or waits; and a term that is bound to is of its owner's class
  pub record IsComplete (atoms : List Flat) : Type 0 where
    pub equal : (u v : ℕ) → Contains atoms (VarVar u v) → Joins u v
    pub held : (u : ℕ) (symbol : Symbol) (xs : List ℕ) → Contains atoms (VarTerm u symbol xs) → HasTerm u symbol xs
    pub owned : (t : ℕ) → t < length c.terms → HasTerm (owner owners t) (term_at c.terms t).symbol (term_at c.terms t).args
    pub shared : (t m : ℕ) → AreAlike c t m → Joins (owner owners t) (owner owners m)
    pub live : (r t : ℕ) → binding_of c.bindings r ≡ Term t → name c (owner owners t) ≡ r

  abbrev pub IsUnderway : List Flat → Type 0
  IsUnderway atoms = IsSound atoms × IsComplete atoms
