-- Which variables a conjunction of flat atoms makes equal, and when it has no solution.
use Rattle.std.specs.Prelude.{ℕ, ◌≡◌, ◌<◌, List, length, slice_index, Contains}
use Rattle.tree_model.specs.declared.tree.Symbol.{Symbol}
use Rattle.flat_form.specs.declared.atom.Flat.{Flat}
use Rattle.flat_form.specs.declared.atom.Flat.TheVariants.{VarVar, VarTerm, Finite}

module _ (atoms : List Flat) where
  -- u and v are in one class: the least equivalence that joins what the atoms equate, the arguments of terms in one
  -- class that have one symbol, and variables whose terms have one symbol and arguments in the same classes
  pub data Class : ℕ → ℕ → Type 0 where
    itself : (u : ℕ) → Class u u
    turned : {u v : ℕ} → Class u v → Class v u
    joined : {u v w : ℕ} → Class u v → Class v w → Class u w
    stated : {u v : ℕ} → Contains atoms (VarVar u v) → Class u v
    inward : {u v : ℕ} (symbol : Symbol) (xs ys : List ℕ) → Contains atoms (VarTerm u symbol xs) → Contains atoms (VarTerm v symbol ys)
        → length xs ≡ length ys → Class u v → (i : ℕ) → i < length xs → Class (slice_index xs i) (slice_index ys i)
    outward : {u v : ℕ} (symbol : Symbol) (xs ys : List ℕ) → Contains atoms (VarTerm u symbol xs) → Contains atoms (VarTerm v symbol ys)
        → length xs ≡ length ys → ((i : ℕ) → i < length xs → Class (slice_index xs i) (slice_index ys i)) → Class u v

  -- one class has two terms with different symbols, or different numbers of arguments
  pub record Clashes : Type 0 where
    pub left : ℕ
    pub right : ℕ
    pub left_symbol : Symbol
    pub right_symbol : Symbol
    pub xs : List ℕ
    pub ys : List ℕ
    pub one_class : Class left right
    pub left_stands : Contains atoms (VarTerm left left_symbol xs)
    pub right_stands : Contains atoms (VarTerm right right_symbol ys)
    pub differ : ¬ ((left_symbol ≡ right_symbol) × (length xs ≡ length ys))

  -- the class of v is that of a finite atom, or is reached from it along terms
  pub data Reached : ℕ → Type 0 where
    marked : {u v : ℕ} → Contains atoms (Finite u) → Class u v → Reached v
    child : {u w : ℕ} (symbol : Symbol) (xs : List ℕ) → Reached u → Contains atoms (VarTerm u symbol xs) → (i : ℕ) → i < length xs
        → Class (slice_index xs i) w → Reached w

  -- a walk along terms, of one step or more, from the class of u to that of w
  pub data Walk : ℕ → ℕ → Type 0 where
    step : {u v w : ℕ} (symbol : Symbol) (xs : List ℕ) → Class u v → Contains atoms (VarTerm v symbol xs) → (i : ℕ) → i < length xs
        → Class (slice_index xs i) w → Walk u w
    more : {u v w : ℕ} → Walk u v → Walk v w → Walk u w

  -- the atoms clash, or a walk from a finite atom comes round
  pub data Unsolvable : Type 0 where
    clash : Clashes → Unsolvable
    loop : {v : ℕ} → Reached v → Walk v v → Unsolvable

  -- no variable of v's class has a term
  abbrev pub HasNoTerm : ℕ → Type 0
  HasNoTerm v = (u : ℕ) (symbol : Symbol) (xs : List ℕ) → Class v u → ¬ Contains atoms (VarTerm u symbol xs)
