-- Terms: their subterms, and what a term reads at a path.
use Rattle.std.specs.Prelude.{ℕ, List, [], ◌∷◌, length, slice_get, Option, Some, None, option_and_then}
use Rattle.tree_model.specs.declared.tree.Symbol.{Symbol}
use Rattle.tree_model.specs.Graphs.{Graph}
use Rattle.tree_model.specs.Trees.{at}
use Rattle.formula_ast.specs.declared.term.Term.{Term}
use Rattle.formula_ast.specs.declared.term.Term.TheOpen.{Term-F}
use Rattle.formula_ast.specs.declared.term.Term.TheOpen as layer
use Rattle.formula_ast.specs.declared.term.Term.TheViews.{out-Term}
use Rattle.formula_ast.specs.declared.term.Terms.{Terms}

-- the terms of a list of arguments
abbrev pub list_of : Terms → List Term
list_of terms = terms.items

-- what a term reads at a path, given its outermost layer: a variable reads as its tree does
abbrev pub layer_reads : (ℕ → Graph) → Term-F Term Terms → List ℕ → Option (Symbol × ℕ)
layer_reads e (layer.Var v) path = at (e v) path
layer_reads e (layer.App s ts) [] = Some (s, length (list_of ts))
layer_reads e (layer.App s ts) (i ∷ path) =
    option_and_then {T = Term} {U = Symbol × ℕ} (λ t. layer_reads e (out-Term t) path) (slice_get (list_of ts) i)

-- what a term reads at a path, where each variable has a tree as its value
abbrev pub reads : (ℕ → Graph) → Term → List ℕ → Option (Symbol × ℕ)
reads e t path = layer_reads e (out-Term t) path

-- the i-th argument of a term with this outermost layer
abbrev pub argument : Term-F Term Terms → ℕ → Option Term
argument (layer.Var v) i = None
argument (layer.App s ts) i = slice_get (list_of ts) i

-- the subterm that stands at a path of argument numbers
abbrev pub subterm : Term → List ℕ → Option Term
subterm t [] = Some t
subterm t (i ∷ path) = option_and_then {T = Term} {U = Term} (λ u. subterm u path) (argument (out-Term t) i)
