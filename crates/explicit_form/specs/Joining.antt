-- Formulas that are chained one after another.
use Rattle.std.specs.Prelude.{◌≡◌, List, [], ◌∷◌, Option, Some, None}
use Rattle.formula_ast.specs.declared.formula.Formula.{Formula}
use Rattle.formula_ast.specs.Forms.{Form, form_of}
use Rattle.formula_grammar.specs.Written.{Joint}
use Rattle.formula_printer.specs.Bound.{chained}

-- these formulas are chained so far, if there are any
abbrev pub Joins : Joint → Option Formula → List Form → Type 0
Joins j None fs = fs ≡ []
Joins j (Some f) fs = (first : Form) × (others : List Form) × (fs ≡ first ∷ others) × (form_of f ≡ chained j first others)
