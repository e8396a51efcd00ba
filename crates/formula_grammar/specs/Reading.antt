-- Which texts read as which files and formulas.
use Rattle.std.specs.Prelude.{◌≡◌, ℕ, ◌≤◌, List, [], length}
use Rattle.tree_model.specs.Signatures.{Signature}
use Rattle.formula_ast.specs.declared.file.File.{File}
use Rattle.formula_ast.specs.declared.statement.Statement.{Statement}
use Rattle.formula_ast.specs.Forms.{Form, form_of}
use Rattle.formula_ast.specs.Tokens.{end, tokens_at, Word}
use Rattle.formula_grammar.specs.Limits.{most_bytes}
use Rattle.formula_grammar.specs.Written.{Text, WrittenFormula}
use Rattle.formula_grammar.specs.Words.{WrittenStatement}
use Rattle.formula_grammar.specs.Grammar as grammar
use Rattle.formula_grammar.specs.Begins.{BeginsWith}
use Rattle.formula_grammar.specs.Names.{UsesNames, AreNamed}
use Rattle.formula_grammar.specs.Within.{IsSized, AreWithin}
use Rattle.formula_grammar.specs.Meaning.{variables_in, first_occurrences, Stands, Makes}

-- a text of these words, up to its end
pub record IsWritten (bytes : List ℕ) (words : List Word) : Type 0 where
  pub stop : ℕ
  pub tokens : BeginsWith bytes (tokens_at bytes 0) words (end stop)

-- ---- files

-- the text is a file of these statements, which use names as they are declared; no limit is asked for
pub record ReadsAsStatements (bytes : List ℕ) (statements : List WrittenStatement) : Type 0 where
  pub words : List Word
  pub written : IsWritten bytes words
  pub grammar : grammar.IsFile words statements
  pub named : AreNamed [] statements

-- and it is within the limits
pub record ReadsWithin (bytes : List ℕ) (statements : List WrittenStatement) : Type 0 where
  pub reads : ReadsAsStatements bytes statements
  pub short : length bytes ≤ most_bytes
  pub within : AreWithin [] statements

-- the text reads as this file
pub record ReadsAs (bytes : List ℕ) (file : File) : Type 0 where
  pub statements : List WrittenStatement
  pub reads : ReadsWithin bytes statements
  pub makes : Makes file [] [] [] statements

-- ---- formulas

-- The text is this formula, whose names are used as they are declared, over variables that are named by first occurrence; no
-- limit is asked for.
pub record ReadsAsNamed (σ : Signature) (bytes : List ℕ) (names : List Text) (f : Form) : Type 0 where
  pub words : List Word
  pub written : IsWritten bytes words
  pub formula : WrittenFormula
  pub grammar : grammar.IsFormula words formula
  pub uses : UsesNames σ formula
  pub names_are : names ≡ first_occurrences [] (variables_in formula)
  pub stands : Stands σ names formula f

-- the text reads as this statement, with these names declared
pub record ReadsAsFormula (σ : Signature) (bytes : List ℕ) (s : Statement) : Type 0 where
  pub reads : ReadsAsNamed σ bytes s.names (form_of s.body)
  pub short : length bytes ≤ most_bytes
  pub sized : IsSized reads.formula
