-- What can be printed.
use Rattle.std.specs.Prelude.{◌≡◌, ℕ, List, ◌++◌, length}
use Rattle.tree_model.specs.Signatures.{Signature}
use Rattle.formula_ast.specs.declared.statement.Statement.{Statement}
use Rattle.formula_ast.specs.declared.token.TokenKind.TheVariants as k
use Rattle.formula_ast.specs.Forms.{form_of}
use Rattle.formula_ast.specs.WellFormed.{AreWords, IsStatementOver}
use Rattle.formula_grammar.specs.Written.{Text}
use Rattle.formula_printer.specs.Bound.{bound_names}
use Rattle.formula_printer.specs.Printable.{AreNames, FormFits}
use Rattle.formula_printer.specs.Writing.{names_of}

-- a well formed statement over a signature whose names are names as they are written
abbrev pub StatementsArePrintable : Type 0
StatementsArePrintable =
    (σ : Signature) (s : Statement) → AreWords k.Name (names_of σ) → IsStatementOver σ s → AreNames σ s.names × FormFits σ (length s.names) (form_of s.body)

-- names with those of n bound variables behind them
abbrev pub BoundNamesArePrintable : Type 0
BoundNamesArePrintable =
    (σ : Signature) (names : List Text) (n : ℕ) → AreNames σ names → (length (bound_names names n) ≡ n) × AreNames σ (names ++ bound_names names n)
