-- How an assignment is written: as the formula that gives each node by its symbol and children, and each variable by its
-- root.
use Rattle.std.specs.Prelude.{ℕ, suc, List, [], ◌∷◌, ◌++◌, length, map}
use Rattle.tree_model.specs.declared.tree.Node.{Node}
use Rattle.tree_model.specs.Graphs.{Forest}
use Rattle.formula_ast.specs.declared.term.Term.TheVariants as term
use Rattle.formula_ast.specs.Forms.{Form, equal}
use Rattle.formula_grammar.specs.Written.{Text}
use Rattle.formula_printer.specs.Bound.{bound_names, conjunction, exist}

-- the formula's first variables are the nodes, and behind them come those of the assignment

abbrev pub node_equation : ℕ → Node → Form
node_equation i node = equal (term.Var i) (term.App node.symbol (record { items = map (λ child. term.Var child) node.children }))

-- one for each node, of which the first has a number
abbrev pub node_equations : ℕ → List Node → List Form
node_equations i [] = []
node_equations i (node ∷ nodes) = node_equation i node ∷ node_equations (suc i) nodes

-- one for each variable, of which the first has a number: it equals its root
abbrev pub root_equations : ℕ → List ℕ → List Form
root_equations i [] = []
root_equations i (root ∷ roots) = equal (term.Var i) (term.Var root) ∷ root_equations (suc i) roots

abbrev pub equations_of : Forest → List Form
equations_of a = node_equations 0 a.nodes ++ root_equations (length a.nodes) a.roots

abbrev pub assignment_form : Forest → Form
assignment_form a = exist 0 (length a.nodes) (conjunction (equations_of a))

-- the names of all its variables, where these are the names of those of the assignment
abbrev pub assignment_names : List Text → Forest → List Text
assignment_names names a = bound_names names (length a.nodes) ++ names
