-- What reads as a file, or as a formula, is well formed.
use Rattle.std.specs.Prelude.{◌≡◌, ℕ, ◌≤◌, List, Some}
use Rattle.tree_model.specs.declared.kind.Kind.TheVariants as kind
use Rattle.tree_model.specs.Signatures.{Signature, declared_at}
use Rattle.formula_ast.specs.declared.file.File.{File}
use Rattle.formula_ast.specs.declared.statement.Statement.{Statement}
use Rattle.formula_ast.specs.WellFormed.{IsWellFormed, IsStatementOver}
use Rattle.formula_grammar.specs.Limits.{most_arguments}
use Rattle.formula_grammar.specs.Reading.{ReadsAs, ReadsAsFormula}

-- a text that reads as a file makes a well formed file
abbrev pub FilesAreWellFormed : Type 0
FilesAreWellFormed = (bytes : List ℕ) (file : File) → ReadsAs bytes file → IsWellFormed file

-- each symbol has not more arguments than a file may declare
abbrev pub HasFewArguments : Signature → Type 0
HasFewArguments σ = (place n : ℕ) → declared_at σ place ≡ Some (kind.Symbol, n) → n ≤ most_arguments

-- and one that reads as a formula over such a signature makes a well formed statement
abbrev pub StatementsAreWellFormed : Type 0
StatementsAreWellFormed = (σ : Signature) (bytes : List ℕ) (s : Statement) → HasFewArguments σ → ReadsAsFormula σ bytes s → IsStatementOver σ s
