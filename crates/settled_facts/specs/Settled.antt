-- Contents whose names are the classes of a conjunction.
use Rattle.std.specs.Prelude.{◌≡◌, ℕ, ◌<◌, true, false, List, ◌++◌, length, map, slice_index, slice_index_or, Contains}
use Rattle.tree_model.specs.declared.tree.Symbol.{Symbol}
use Rattle.flat_form.specs.declared.atom.Flat.{Flat}
use Rattle.flat_form.specs.declared.atom.Flat.TheVariants.{VarVar, VarTerm}
use Rattle.flat_form.specs.Classes.{Class, Reached}
use Rattle.term_graph.specs.declared.bound.Bound.TheVariants.{Free, Term}
use Rattle.term_graph.specs.Contents.{Contents, binding_of, root, IsForest, HasKey, term_at}

-- the name of a variable: the last one along the bindings
abbrev pub name : Contents → ℕ → ℕ
name c v = root c.bindings v

abbrev pub IsFree : Contents → ℕ → Type 0
IsFree c v = binding_of c.bindings v ≡ Free

abbrev pub IsMarked : Contents → ℕ → Type 0
IsMarked c v = slice_index_or c.marks v false ≡ true

-- what is true of the contents of each graph: ways along the bindings end, and all numbers are in range
pub record IsShaped (c : Contents) : Type 0 where
  pub forest : IsForest c.bindings
  pub marks : length c.marks ≡ length c.bindings
  pub bound : (v t : ℕ) → binding_of c.bindings v ≡ Term t → t < length c.terms
  pub arguments : (t i : ℕ) → t < length c.terms → i < length (term_at c.terms t).args → slice_index (term_at c.terms t).args i < length c.bindings

-- r is bound to a term with this symbol, and these are the names of its arguments
pub record HasTermIn (c : Contents) (r : ℕ) (symbol : Symbol) (ys : List ℕ) : Type 0 where
  pub term : ℕ
  pub bound : binding_of c.bindings r ≡ Term term
  pub key : HasKey c.bindings c.terms symbol ys term

-- no way along terms from r goes on for ever, and each ends at a mark
pub data Firm (c : Contents) : ℕ → Type 0 where
  leaf : {r : ℕ} → IsFree c r → IsMarked c r → Firm c r
  node : {r : ℕ} (symbol : Symbol) (ys : List ℕ) → HasTermIn c r symbol ys → ((i : ℕ) → i < length ys → Firm c (slice_index ys i)) → Firm c r

-- what the contents say follows from the atoms: variables with one name are in one class, each term that is bound to
-- stands in an atom, and a free variable with a mark must be finite
pub record Follows (c : Contents) (atoms : List Flat) : Type 0 where
  pub sound : (v : ℕ) → Class atoms v (name c v)
  pub given : (r : ℕ) (symbol : Symbol) (ys : List ℕ) → HasTermIn c r symbol ys
      → (u : ℕ) × (xs : List ℕ) × Contains atoms (VarTerm u symbol xs) × (name c u ≡ r) × (map (name c) xs ≡ ys)
  pub marked : (r : ℕ) → IsFree c r → IsMarked c r → Reached atoms r

-- The contents say all that the atoms do: the names are the classes, each atom's term is that of its class, no two classes
-- have one term, each term is that of its owner's class, and what must be finite is.
pub record IsSettled (c : Contents) (owners : List ℕ) (atoms : List Flat) : Type 0 where
  pub follows : Follows c atoms
  pub equal : (u v : ℕ) → Contains atoms (VarVar u v) → name c u ≡ name c v
  pub held : (u : ℕ) (symbol : Symbol) (xs : List ℕ) → Contains atoms (VarTerm u symbol xs) → HasTermIn c (name c u) symbol (map (name c) xs)
  pub apart : (q r : ℕ) (symbol : Symbol) (ys : List ℕ) → HasTermIn c q symbol ys → HasTermIn c r symbol ys → q ≡ r
  pub owned : (t : ℕ) (symbol : Symbol) (keys : List ℕ) → HasKey c.bindings c.terms symbol keys t → HasTermIn c (name c (slice_index owners t)) symbol keys
  pub firm : (v : ℕ) → Reached atoms v → Firm c (name c v)

-- whatever the contents at the start had settled, those at the end have settled that and these atoms
abbrev pub IsCarried : Contents → Contents → List ℕ → List Flat → Type 0
IsCarried start end owners atoms = (below : List Flat) → IsSettled start owners below → IsSettled end owners (below ++ atoms)
