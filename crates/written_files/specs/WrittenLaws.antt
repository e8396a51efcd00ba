-- Files that are written as they are printed.
use Rattle.std.specs.Prelude.{◌≡◌, ◌≤◌, true, List, [], ◌∷◌, length, Some, None}
use Rattle.formula_ast.specs.Tokens.{Word, kind_of}
use Rattle.formula_grammar.specs.Words.{WrittenStatement, has_text, statements_words}
use Rattle.formula_grammar.specs.Grammar.{files, AreStatementsOf}
use Rattle.formula_grammar.specs.Names.{AreNamed}
use Rattle.formula_grammar.specs.Within.{AreWithin}
use Rattle.formula_grammar.specs.Limits.{most_bytes}
use Rattle.formula_grammar.specs.Reading.{IsWritten}
use Rattle.formula_grammar.specs.FirstFault.{file_fault}
use Rattle.written_files.specs.Files.{file_text}

-- a name is written as a name, a variable as a variable, a number and a further symbol as one
abbrev pub IsOfItsKind : Word → Type 0
IsOfItsKind w = has_text w.kind ≡ true → kind_of w.text ≡ Some w.kind

abbrev pub AreOfTheirKinds : List Word → Type 0
AreOfTheirKinds [] = Unit {0}
AreOfTheirKinds (w ∷ ws) = IsOfItsKind w × AreOfTheirKinds ws

-- the words of a file's text are those of its statements
abbrev pub WrittenFilesRead : Type 0
WrittenFilesRead = (ss : List WrittenStatement) → AreStatementsOf files ss → AreOfTheirKinds (statements_words ss []) → IsWritten (file_text ss) (statements_words ss [])

-- and where they use names as they are declared and are within the limits, the text has no first fault
abbrev pub WrittenFilesAreFaultless : Type 0
WrittenFilesAreFaultless = (ss : List WrittenStatement) → AreStatementsOf files ss → AreOfTheirKinds (statements_words ss [])
    → AreNamed [] ss → AreWithin [] ss → length (file_text ss) ≤ most_bytes → file_fault (file_text ss) ≡ None
