-- A formula as a nest of negated conjunctions of flat atoms.
--
-- A formula's conjunction has bound variables, atoms and parts, which together mean it. Throughout, `m` gives each
-- variable of the formula its number, new variables take the numbers from n on, and `scope` is how many variables are
-- in scope inside: the bound ones of the conjunction are among them, and those of its parts come behind.
use Rattle.std.specs.Prelude.{ℕ, ◌+◌, ◌-◌, List, [], ◌∷◌, ◌++◌, map, length, slice_index, nat_lt, if◌then◌else◌}
use Rattle.tree_model.specs.Valuations.{update}
use Rattle.flat_form.specs.declared.atom.Flat.{Flat}
use Rattle.flat_form.specs.declared.atom.Flat.TheVariants.{VarVar, VarTerm, Finite}
use Rattle.flat_form.specs.declared.cube.Part.{Part}
use Rattle.flat_form.specs.declared.cube.Cube.{Cube}
use Rattle.flat_form.specs.Normals.{Norm, Norms, norm, none, also, join}
use Rattle.flat_form.specs.Parts.{renumbered}
use Rattle.formula_ast.specs.Forms.{Form}
use Rattle.flattening.specs.declared.solved.Key.{Key}
use Rattle.flattening.specs.Numbers.{rank_in}
use Rattle.flattening.specs.Tables.{cubes_at}
use Rattle.flattening.specs.Plain.{PlainTerm, PlainTerms, variable, apply, no_terms, one_more, Plain, always, equal, finite, ask, no, and, exists, plain_of}

-- how many new variables a term takes for itself: one, where it is no variable
abbrev pub alone : PlainTerm → ℕ
alone (variable v) = 0
alone (apply symbol ts) = 1

abbrev mutual
  -- how many the terms inside it take
  pub inside : PlainTerm → ℕ
  inside (variable v) = 0
  inside (apply symbol ts) = wides ts

  -- how many whole terms take
  pub wides : PlainTerms → ℕ
  wides no_terms = 0
  wides (one_more t ts) = alone t + inside t + wides ts

-- how many a whole term takes
abbrev pub wide : PlainTerm → ℕ
wide t = alone t + inside t

-- how many of the arguments are no variables
abbrev pub applied : PlainTerms → ℕ
applied no_terms = 0
applied (one_more t ts) = alone t + applied ts

-- the number of a term: a variable's own, and the next number for another term
abbrev pub number : (ℕ → ℕ) → ℕ → PlainTerm → ℕ
number m n (variable v) = m v
number m n (apply symbol ts) = n

-- the numbers of the arguments of a symbol: those that are no variables take the next numbers, by place
abbrev pub arguments : (ℕ → ℕ) → ℕ → PlainTerms → List ℕ
arguments m n no_terms = []
arguments m n (one_more t ts) = number m n t ∷ arguments m (n + alone t) ts

abbrev mutual
  -- the equations of a term that has the number u: first its own, then those of its arguments; a variable has none
  pub equations : (ℕ → ℕ) → ℕ → ℕ → PlainTerm → List Flat
  equations m u n (variable v) = []
  equations m u n (apply symbol ts) = VarTerm u symbol (arguments m n ts) ∷ deeper m n (n + applied ts) ts

  -- the equations of the arguments, by place, each followed by those of its own arguments, where k is the next of the
  -- arguments' numbers
  pub deeper : (ℕ → ℕ) → ℕ → ℕ → PlainTerms → List Flat
  deeper m k n no_terms = []
  deeper m k n (one_more t ts) = equations m k n t ++ deeper m (k + alone t) (n + inside t) ts

-- the variable with the number u equals the term
abbrev pub equation : (ℕ → ℕ) → ℕ → ℕ → PlainTerm → List Flat
equation m u n (variable v) = VarVar u (m v) ∷ []
equation m u n (apply symbol ts) = equations m u n (apply symbol ts)

-- two terms are equal: where neither is a variable, one new variable equals both
abbrev pub equality : (ℕ → ℕ) → ℕ → PlainTerm → PlainTerm → List Flat
equality m n (variable u) s = equation m (m u) n s
equality m n (apply symbol ts) (variable v) = equation m (m v) n (apply symbol ts)
equality m n (apply symbol ts) (apply other us) =
    equation m n (n + 1) (apply symbol ts) ++ equation m n (n + 1 + wides ts) (apply other us)

-- how many new variables that takes
abbrev pub equality_bound : PlainTerm → PlainTerm → ℕ
equality_bound (variable u) s = inside s
equality_bound (apply symbol ts) (variable v) = wides ts
equality_bound (apply symbol ts) (apply other us) = 1 + wides ts + wides us

-- the equations of a whole term, whose number is the next one where it is no variable
abbrev pub whole : (ℕ → ℕ) → ℕ → PlainTerm → List Flat
whole m n t = equations m n (n + alone t) t

-- whole terms, from left to right: their numbers and their equations
abbrev pub numbers : (ℕ → ℕ) → ℕ → PlainTerms → List ℕ
numbers m n no_terms = []
numbers m n (one_more t ts) = number m n t ∷ numbers m (n + wide t) ts

abbrev pub wholes : (ℕ → ℕ) → ℕ → PlainTerms → List Flat
wholes m n no_terms = []
wholes m n (one_more t ts) = whole m n t ++ wholes m (n + wide t) ts

-- a cube's variable in scope of so many: the first are the arguments, and the others come behind those in scope
abbrev pub placed : List ℕ → ℕ → ℕ → ℕ
placed args scope v = if nat_lt v (length args) then slice_index args v else scope + (v - length args)

-- no values of the inner variables make the part hold
abbrev pub denied_parts : (ℕ → ℕ) → List Part → Norms
denied_parts f [] = none
denied_parts f (part ∷ rest) = also (norm part.inner (map (renumbered f) part.basic) none) (denied_parts f rest)

-- the cube doesn't hold at the arguments
abbrev pub denied : List ℕ → ℕ → Cube → Norm
denied args scope cube = norm cube.outer (map (renumbered (placed args scope)) cube.basic) (denied_parts (placed args scope) cube.parts)

-- none of the cubes holds at the arguments
abbrev pub all_denied : List ℕ → ℕ → List Cube → Norms
all_denied args scope [] = none
all_denied args scope (cube ∷ rest) = also (denied args scope cube) (all_denied args scope rest)

-- the negated conjunction with more parts
abbrev pub with_more : Norms → Norm → Norm
with_more more (norm bound basic parts) = norm bound basic (join parts more)

-- how many variables the conjunction of a formula binds
abbrev pub bound_of : Plain → ℕ
bound_of always = 0
bound_of (equal t s) = equality_bound t s
bound_of (finite t) = wide t
bound_of (ask key ts) = wides ts
bound_of (no f) = 0
bound_of (and f g) = bound_of f + bound_of g
bound_of (exists x f) = 1 + bound_of f

-- its atoms
abbrev pub atoms_of : (ℕ → ℕ) → ℕ → Plain → List Flat
atoms_of m n always = []
atoms_of m n (equal t s) = equality m n t s
atoms_of m n (finite t) = whole m n t ++ Finite (number m n t) ∷ []
atoms_of m n (ask key ts) = wholes m n ts
atoms_of m n (no f) = []
atoms_of m n (and f g) = atoms_of m n f ++ atoms_of m (n + bound_of f) g
atoms_of m n (exists x f) = atoms_of (update m x n) (n + 1) f

-- its parts, where each key has these cubes
module _ (entries : Key → List Cube) where
  abbrev pub parts_of : (ℕ → ℕ) → ℕ → ℕ → Plain → Norms
  parts_of m n scope always = none
  parts_of m n scope (equal t s) = none
  parts_of m n scope (finite t) = none
  parts_of m n scope (ask key ts) = also (norm 0 [] (all_denied (numbers m n ts) scope (entries key))) none
  parts_of m n scope (no f) =
      also (norm (bound_of f) (atoms_of m scope f) (parts_of m scope (scope + bound_of f) f)) none
  parts_of m n scope (and f g) = join (parts_of m n scope f) (parts_of m (n + bound_of f) scope g)
  parts_of m n scope (exists x f) = parts_of (update m x n) (n + 1) scope f

  -- the negated conjunction of a formula, over so many variables
  abbrev pub negation : (ℕ → ℕ) → ℕ → Plain → Norm
  negation m scope f = norm (bound_of f) (atoms_of m scope f) (parts_of m scope (scope + bound_of f) f)

  -- the conjunction of f with g negated, and that negated in turn
  abbrev pub implication : (ℕ → ℕ) → ℕ → Plain → Plain → Norm
  implication m scope f g = with_more (also (negation m (scope + bound_of f) g) none) (negation m scope f)

  -- the formula, negated twice
  abbrev pub flattened : (ℕ → ℕ) → ℕ → Plain → Norm
  flattened m scope f = norm 0 [] (also (negation m scope f) none)

-- the flattening of a formula by a table, over as many variables as there are ranks
unfoldable pub flattening_of : List ℕ → List (Key × List Cube) → Form → Norm
flattening_of ranks table f = flattened (cubes_at table) (rank_in ranks) (length ranks) (plain_of f)
