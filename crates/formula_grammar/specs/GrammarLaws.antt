-- Laws of the grammar and of the machine.
use Rattle.std.specs.Prelude.{◌≡◌, ℕ, List, length, Some, None, ◌≤◌}
use Rattle.formula_ast.specs.Tokens.{end, tokens_at, Word}
use Rattle.tree_model.specs.Signatures.{Signature}
use Rattle.formula_grammar.specs.declared.fault.Fault.{Fault}
use Rattle.formula_grammar.specs.Written.{WrittenFormula}
use Rattle.formula_grammar.specs.Words.{WrittenStatement}
use Rattle.formula_grammar.specs.Limits.{most_bytes}
use Rattle.formula_grammar.specs.Grammar.{IsFile, IsFormula}
use Rattle.formula_grammar.specs.Begins.{BeginsWith, IsSomeFile, IsSomeFormula, StandsRight}
use Rattle.formula_grammar.specs.FirstFault.{file_fault, formula_fault}

-- words read as at most one file, and as at most one formula
abbrev pub OneFileReading : Type 0
OneFileReading = (ws : List Word) (first other : List WrittenStatement) → IsFile ws first → IsFile ws other → first ≡ other

abbrev pub OneFormulaReading : Type 0
OneFormulaReading = (ws : List Word) (first other : WrittenFormula) → IsFormula ws first → IsFormula ws other → first ≡ other

-- the first fault of a text within the limit of size stands right, as a file and as a formula
abbrev pub FileFaultsStandRight : Type 0
FileFaultsStandRight = (bytes : List ℕ) (fault : Fault) → length bytes ≤ most_bytes → file_fault bytes ≡ Some fault
    → StandsRight IsSomeFile bytes (tokens_at bytes 0) fault

abbrev pub FormulaFaultsStandRight : Type 0
FormulaFaultsStandRight = (σ : Signature) (bytes : List ℕ) (fault : Fault) → length bytes ≤ most_bytes → formula_fault σ bytes ≡ Some fault
    → StandsRight IsSomeFormula bytes (tokens_at bytes 0) fault

-- a text without a first fault is written as a file, and as a formula
abbrev pub FaultlessFilesRead : Type 0
FaultlessFilesRead = (bytes : List ℕ) → file_fault bytes ≡ None
    → (ws : List Word) × (at : ℕ) × BeginsWith bytes (tokens_at bytes 0) ws (end at) × IsSomeFile ws

abbrev pub FaultlessFormulasRead : Type 0
FaultlessFormulasRead = (σ : Signature) (bytes : List ℕ) → formula_fault σ bytes ≡ None
    → (ws : List Word) × (at : ℕ) × BeginsWith bytes (tokens_at bytes 0) ws (end at) × IsSomeFormula ws
