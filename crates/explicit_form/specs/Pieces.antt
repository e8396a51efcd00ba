-- What an explicit formula is made of, taken from the formula.
use Rattle.std.specs.Prelude.{ℕ, List, [], ◌∷◌, ◌++◌, map, Bool, true, false, cond, nat_eq, Option, Some, None}
use Rattle.formula_ast.specs.declared.term.Term.{Term}
use Rattle.formula_ast.specs.declared.term.Terms.{Terms}
use Rattle.formula_ast.specs.declared.term.Term.TheOpen.{Term-F}
use Rattle.formula_ast.specs.declared.term.Term.TheOpen as layer
use Rattle.formula_ast.specs.declared.term.Term.TheViews.{out-Term}
use Rattle.formula_ast.specs.Terms.{list_of}
use Rattle.formula_ast.specs.Forms.{Form, equal, differ, finite, no, and, or, exists}
use Rattle.flat_form.specs.declared.atom.Flat.{Flat}
use Rattle.flat_form.specs.declared.atom.Flat.TheVariants.{VarVar, VarTerm, Finite}
use Rattle.explicit_form.specs.Explicit.{Denied}
use Rattle.explicit_form.specs.Shape.{IsPlaced, IsNew}

-- ---- terms

-- the variable that a term is, and 0 for other terms
abbrev pub layer_variable : Term-F Term Terms → ℕ
layer_variable (layer.Var v) = v
layer_variable (layer.App s ts) = 0

abbrev pub variable_in : Term → ℕ
variable_in t = layer_variable (out-Term t)

-- the equation of u and what a term is, whose arguments are taken for variables
abbrev pub layer_equation : ℕ → Term-F Term Terms → Flat
layer_equation u (layer.Var v) = VarVar u v
layer_equation u (layer.App s ts) = VarTerm u s (map variable_in (list_of ts))

abbrev pub equation : Term → Term → Flat
equation t s = layer_equation (variable_in t) (out-Term s)

-- ---- formulas

-- the variables of the quantifiers in front
abbrev pub bound_of : Form → List ℕ
bound_of (exists x f) = x ∷ bound_of f
bound_of f = []

-- the atoms of a conjunction behind quantifiers
abbrev pub basic_of : Form → List Flat
basic_of (equal t s) = equation t s ∷ []
basic_of (finite t) = Finite (variable_in t) ∷ []
basic_of (and f g) = basic_of f ++ basic_of g
basic_of (exists x f) = basic_of f
basic_of f = []

-- and what is denied in it
abbrev pub parts_of : Form → List Denied
parts_of (differ t s) = record { bound = []; basic = equation t s ∷ [] } ∷ []
parts_of (no f) = record { bound = bound_of f; basic = basic_of f } ∷ []
parts_of (and f g) = parts_of f ++ parts_of g
parts_of (exists x f) = parts_of f
parts_of f = []

-- the formulas of a disjunction
abbrev pub disjuncts_of : Form → List Form
disjuncts_of (or f g) = disjuncts_of f ++ g ∷ []
disjuncts_of f = f ∷ []

-- ---- order

-- of two variables, whether the first is the first of both that the list has
abbrev pub first_met : List ℕ → ℕ → ℕ → Option Bool
first_met [] v u = None
first_met (x ∷ xs) v u = cond (nat_eq x u) (Some false) (cond (nat_eq x v) (Some true) (first_met xs v u))

-- ---- what fits

-- the atom may stand in a block, where the first formula has what is bound outside and the base, and the second one what
-- is bound here
abbrev pub Fits : ℕ → Form → Form → Flat → Type 0
Fits free outer inner atom = IsPlaced free (basic_of outer) (bound_of outer ++ bound_of inner) (bound_of inner) atom × IsNew (basic_of outer) atom
