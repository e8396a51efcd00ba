-- What the crates below say of files: which texts read as which file, where the others have their first fault, and which
-- texts are right answers of a statement.
use Rattle.std.specs.Prelude.{◌≡◌, ℕ, List, Some}
use Rattle.step_facts.specs.Lists.{IsPlain}
use Rattle.answer_texts.specs.Answered as answer
use Rattle.answer_texts.specs.Given.{GivenLists}
pub use Rattle.formula_ast.specs.declared.file.File.{File}
pub use Rattle.formula_grammar.specs.declared.fault.Fault.{Fault}
pub use Rattle.formula_grammar.specs.declared.fault.FaultKind.{FaultKind}
use Rattle.formula_grammar.specs.FirstFault.{file_fault}
pub use Rattle.formula_grammar.specs.Reading.{ReadsAs}

-- the text has this first fault as a file
abbrev pub IsFirstFault : List ℕ → Fault → Type 0
IsFirstFault bytes fault = file_fault bytes ≡ Some fault

-- the text is a right answer of the n-th statement of the file, counted from 1, and what it shows are plain lists
abbrev pub Answered : File → ℕ → List ℕ → Type 0
Answered file n text = answer.Answered (GivenLists IsPlain) file n text
