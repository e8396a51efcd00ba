-- What is well formed can be flattened.
use Rattle.std.specs.Prelude.{ℕ}
use Rattle.tree_model.specs.Signatures.{Signature}
use Rattle.formula_ast.specs.Forms.{Form}
use Rattle.formula_ast.specs.WellFormed.{FormOver}
use Rattle.flattening.specs.Plain.{plain_of}
use Rattle.flattening.specs.Conditions.{FormulaFits, IsNarrow}

-- The symbols of a formula over a signature fit it, and have at most eight arguments.
abbrev pub WellFormedFits : Type 0
WellFormedFits = (σ callable : Signature) (n : ℕ) (f : Form) → FormOver σ callable n f → FormulaFits σ (plain_of f) × IsNarrow (plain_of f)
