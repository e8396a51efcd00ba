-- Statements of a file that hold always, and never.
use Rattle.tree_model.specs.Valuations.{Valuation}
use Rattle.formula_ast.specs.declared.file.File.{File}
use Rattle.formula_ast.specs.declared.formula.Formula.{Formula}
use Rattle.formula_ast.specs.declared.statement.Statement.{Statement}
use Rattle.formula_ast.specs.Forms.{form_of}
use Rattle.formula_ast.specs.Satisfaction.{Holds, meaning_of}

-- the formula holds under the valuation, over the signature and the predicates of the file
abbrev pub Satisfies : (file : File) → Formula → Valuation file.signature → Type 0
Satisfies file f e = Holds file.signature (meaning_of file.signature file.preds) (form_of f) e

-- every valuation satisfies the statement
abbrev pub IsValid : File → Statement → Type 0
IsValid file s = (e : Valuation file.signature) → Satisfies file s.body e

-- no valuation satisfies the statement
abbrev pub IsUnsatisfiable : File → Statement → Type 0
IsUnsatisfiable file s = (e : Valuation file.signature) → ¬ Satisfies file s.body e
