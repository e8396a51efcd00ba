-- The generated file is one of the grammar within the limits.
use Rattle.std.specs.Prelude.{◌≡◌, ℕ, ◌+◌, ◌*◌, ◌≤◌, Bool, true, false, List, [], length, None, count_by}
use Rattle.formula_grammar.specs.Written.{symbols, predicate, question}
use Rattle.formula_grammar.specs.Words.{WrittenStatement}
use Rattle.formula_grammar.specs.Grammar.{files, AreStatementsOf}
use Rattle.formula_grammar.specs.Names.{AreNamed}
use Rattle.formula_grammar.specs.Within.{AreWithin}
use Rattle.formula_grammar.specs.FirstFault.{file_fault}
use Rattle.written_files.specs.Files.{file_text}
use Rattle.generator.specs.Generated.{generated}

abbrev pub is_question : WrittenStatement → Bool
is_question s = elim s.said [ question f ↦ true | symbols d ds ↦ false | predicate p xs f ↦ false ]

-- the statements use names as they are declared, are within the limits, and are so many questions behind a declaration
pub record IsLargeInput (questions : ℕ) (ss : List WrittenStatement) : Type 0 where
  pub grammar : AreStatementsOf files ss
  pub named : AreNamed [] ss
  pub within : AreWithin [] ss
  pub count : count_by is_question ss ≡ questions

abbrev pub GeneratedIsLarge : Type 0
GeneratedIsLarge = (questions : ℕ) → questions ≤ 1000 → IsLargeInput questions (generated questions)

-- the text is short enough, and has no first fault
abbrev pub GeneratedIsFaultless : Type 0
GeneratedIsFaultless = (questions : ℕ) → questions ≤ 1000 → file_fault (file_text (generated questions)) ≡ None

-- each question is a line of at most 201 bytes, and the declaration is one of 22
abbrev pub GeneratedIsShort : Type 0
GeneratedIsShort = (questions : ℕ) → length (file_text (generated questions)) ≤ 22 + questions * 201
