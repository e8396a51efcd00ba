-- Laws of what a text reads as and of its first fault.
use Rattle.std.specs.Prelude.{◌≡◌, ◌↔◌, ℕ, ◌≤◌, List, [], length, Some, None}
use Rattle.tree_model.specs.Signatures.{Signature}
use Rattle.formula_ast.specs.declared.file.File.{File}
use Rattle.formula_ast.specs.declared.statement.Statement.{Statement}
use Rattle.formula_ast.specs.Tokens.{Word}
use Rattle.formula_grammar.specs.declared.fault.Fault.{Fault}
use Rattle.formula_grammar.specs.Limits.{most_bytes}
use Rattle.formula_grammar.specs.Written.{WrittenFormula}
use Rattle.formula_grammar.specs.Words.{WrittenStatement}
use Rattle.formula_grammar.specs.Grammar.{IsFile, IsFormula}
use Rattle.formula_grammar.specs.FirstFault.{file_fault, formula_fault}
use Rattle.formula_grammar.specs.Names.{UsesNames, AreNamed}
use Rattle.formula_grammar.specs.Within.{IsSized, AreWithin}
use Rattle.formula_grammar.specs.Reading.{IsWritten, ReadsAs, ReadsAsFormula}

-- a text that is written as a file, within the limit of its size, has no first fault exactly where its statements use
-- names as they are declared and are within the limits
abbrev pub LawfulFilesAreFaultless : Type 0
LawfulFilesAreFaultless = (bytes : List ℕ) (words : List Word) (statements : List WrittenStatement) → length bytes ≤ most_bytes
    → IsWritten bytes words → IsFile words statements → (file_fault bytes ≡ None) ↔ (AreNamed [] statements × AreWithin [] statements)

-- and one that is written as a formula, exactly where that does
abbrev pub LawfulFormulasAreFaultless : Type 0
LawfulFormulasAreFaultless = (σ : Signature) (bytes : List ℕ) (words : List Word) (f : WrittenFormula) → length bytes ≤ most_bytes
    → IsWritten bytes words → IsFormula words f → (formula_fault σ bytes ≡ None) ↔ (UsesNames σ f × IsSized f)

-- no text reads as a file and has a first fault
abbrev pub NeverBoth : Type 0
NeverBoth = (bytes : List ℕ) (file : File) (fault : Fault) → ReadsAs bytes file → ¬ (file_fault bytes ≡ Some fault)

abbrev pub NeverBothOfFormula : Type 0
NeverBothOfFormula = (σ : Signature) (bytes : List ℕ) (s : Statement) (fault : Fault) → ReadsAsFormula σ bytes s
    → ¬ (formula_fault σ bytes ≡ Some fault)

-- a text without a first fault reads as a file
abbrev pub FilesOrFault : Type 0
FilesOrFault = (bytes : List ℕ) → file_fault bytes ≡ None → (file : File) × ReadsAs bytes file

-- and one that has none as a formula reads as a statement
abbrev pub StatementsOrFault : Type 0
StatementsOrFault = (σ : Signature) (bytes : List ℕ) → formula_fault σ bytes ≡ None → (s : Statement) × ReadsAsFormula σ bytes s

-- a text reads as at most one file, and as at most one statement
abbrev pub OneFile : Type 0
OneFile = (bytes : List ℕ) (first other : File) → ReadsAs bytes first → ReadsAs bytes other → first ≡ other

abbrev pub OneStatement : Type 0
OneStatement = (σ : Signature) (bytes : List ℕ) (first other : Statement) → ReadsAsFormula σ bytes first → ReadsAsFormula σ bytes other → first ≡ other
