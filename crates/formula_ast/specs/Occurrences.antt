-- What stands in terms and in formulas, from left to right.
use Rattle.std.specs.Prelude.{ℕ, not, ◌==◌, List, [], ◌∷◌, ◌++◌, filter, flat_map}
use Rattle.tree_model.specs.declared.tree.Symbol.{Symbol}
use Rattle.tree_model.specs.declared.tree.Symbol.TheVariants.{Named, Further}
use Rattle.formula_ast.specs.declared.term.Term.{Term, Var, App', Row_of-Term, end_of-Term, more_of-Term}
use Rattle.formula_ast.specs.Forms.{Form, always, never, equal, differ, finite, call, win, no, and, or, imp, iff, exists, forall}

-- the index of a further symbol
abbrev pub index_of : Symbol → List ℕ
index_of (Named place) = []
index_of (Further k) = k ∷ []

unfoldable mutual
  -- the variables of a term, as often as they stand in it
  pub variables_in : Term → List ℕ
  variables_in (Var x) = x ∷ []
  variables_in (App' symbol shape terms) = variables_among terms

  -- those of arguments, as Rattle keeps them
  pub variables_among : {m : _} → Row_of-Term m → List ℕ
  variables_among end_of-Term = []
  variables_among (more_of-Term t terms) = variables_in t ++ variables_among terms

unfoldable mutual
  -- the indexes of the further symbols of a term, as often as they stand in it
  pub indexes_in : Term → List ℕ
  indexes_in (Var x) = []
  indexes_in (App' symbol shape terms) = index_of symbol ++ indexes_among terms

  -- those of arguments, as Rattle keeps them
  pub indexes_among : {m : _} → Row_of-Term m → List ℕ
  indexes_among end_of-Term = []
  indexes_among (more_of-Term t terms) = indexes_in t ++ indexes_among terms

-- the list without x
abbrev pub without : ℕ → List ℕ → List ℕ
without x xs = filter (λ y. not (x == y)) xs

-- each item once, by first occurrence
abbrev pub first_occurrences : List ℕ → List ℕ
first_occurrences [] = []
first_occurrences (x ∷ xs) = x ∷ without x (first_occurrences xs)

-- the free variables of a formula, as often as they stand free in it: a quantifier's body is without its variable
abbrev pub free_occurrences : Form → List ℕ
free_occurrences always = []
free_occurrences never = []
free_occurrences (equal t s) = variables_in t ++ variables_in s
free_occurrences (differ t s) = variables_in t ++ variables_in s
free_occurrences (finite t) = variables_in t
free_occurrences (call p ts) = flat_map variables_in ts
free_occurrences (win p k t) = variables_in t
free_occurrences (no f) = free_occurrences f
free_occurrences (and f g) = free_occurrences f ++ free_occurrences g
free_occurrences (or f g) = free_occurrences f ++ free_occurrences g
free_occurrences (imp f g) = free_occurrences f ++ free_occurrences g
free_occurrences (iff f g) = free_occurrences f ++ free_occurrences g
free_occurrences (exists x f) = without x (free_occurrences f)
free_occurrences (forall x f) = without x (free_occurrences f)

-- the indexes of the further symbols of a formula, as often as they stand in it
abbrev pub index_occurrences : Form → List ℕ
index_occurrences always = []
index_occurrences never = []
index_occurrences (equal t s) = indexes_in t ++ indexes_in s
index_occurrences (differ t s) = indexes_in t ++ indexes_in s
index_occurrences (finite t) = indexes_in t
index_occurrences (call p ts) = flat_map indexes_in ts
index_occurrences (win p k t) = indexes_in t
index_occurrences (no f) = index_occurrences f
index_occurrences (and f g) = index_occurrences f ++ index_occurrences g
index_occurrences (or f g) = index_occurrences f ++ index_occurrences g
index_occurrences (imp f g) = index_occurrences f ++ index_occurrences g
index_occurrences (iff f g) = index_occurrences f ++ index_occurrences g
index_occurrences (exists x f) = index_occurrences f
index_occurrences (forall x f) = index_occurrences f
