-- The free variables of a statement by rank, their names, and the further symbols that its answer may not take.
use Rattle.std.specs.Prelude.{ℕ, List, [], ◌++◌, map, get_or, flat_map}
use Rattle.formula_ast.specs.declared.file.File.{File}
use Rattle.formula_ast.specs.declared.formula.Formula.{Formula}
use Rattle.formula_ast.specs.declared.pred.Pred.{Pred}
use Rattle.formula_ast.specs.declared.statement.Statement.{Statement}
use Rattle.formula_ast.specs.Forms.{form_of}
use Rattle.formula_ast.specs.Occurrences.{first_occurrences, free_occurrences, index_occurrences}

-- the free variables of a formula, by first occurrence
abbrev pub ranks_of : Formula → List ℕ
ranks_of f = first_occurrences (free_occurrences (form_of f))

-- the names of these variables
abbrev pub names_at : List (List ℕ) → List ℕ → List (List ℕ)
names_at names ranks = map (λ x. get_or names x []) ranks

-- the names of the free variables of a statement, by rank
abbrev pub free_names : Statement → List (List ℕ)
free_names s = names_at s.names (ranks_of s.body)

-- the indexes of the further symbols of a formula, by first occurrence
abbrev pub indexes_of : Formula → List ℕ
indexes_of f = first_occurrences (index_occurrences (form_of f))

-- those of a formula, and of the body of each predicate of the file
abbrev pub used_indexes : File → Formula → List ℕ
used_indexes file f = indexes_of f ++ flat_map (λ (pred : Pred). indexes_of pred.body) file.preds
