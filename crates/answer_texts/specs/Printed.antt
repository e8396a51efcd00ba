-- A text as the printer gives it.
use Rattle.std.specs.Prelude.{◌≡◌, ℕ, List}
use Rattle.tree_model.specs.Graphs.{Forest}
use Rattle.tree_model.specs.Signatures.{Signature}
use Rattle.formula_ast.specs.declared.statement.Statement.{Statement}
use Rattle.formula_ast.specs.Forms.{Form, form_of}
use Rattle.formula_grammar.specs.Written.{Text}
use Rattle.formula_printer.specs.Assignments.{assignment_form, assignment_names}
use Rattle.formula_printer.specs.Reads.{ReadsBack}
use Rattle.formula_printer.specs.Texts.{text_of}
use Rattle.formula_printer.specs.Writing.{written}
use Rattle.answer_texts.specs.Answered.{open_lines}

-- the text is that of the form over these names, and reads back
pub record IsPrinted (σ : Signature) (names : List Text) (f : Form) (text : Text) : Type 0 where
  pub is : text ≡ text_of (written σ names f)
  pub reads : ReadsBack σ names text f

-- the text of a statement
abbrev pub IsPrintedStatement : Signature → Statement → Text → Type 0
IsPrintedStatement σ s text = IsPrinted σ s.names (form_of s.body) text

-- the text of an assignment to these names
abbrev pub IsPrintedAssignment : Signature → List Text → Forest → Text → Type 0
IsPrintedAssignment σ names a text = IsPrinted σ (assignment_names names a) (assignment_form a) text

-- four lines of printed texts
pub record ArePrinted (σ : Signature) (n : ℕ) (names : List Text) (formula complement : Statement) (holds fails : Forest) (text : Text) : Type 0 where
  pub f : Text
  pub g : Text
  pub a : Text
  pub b : Text
  pub f_printed : IsPrintedStatement σ formula f
  pub g_printed : IsPrintedStatement σ complement g
  pub a_printed : IsPrintedAssignment σ names holds a
  pub b_printed : IsPrintedAssignment σ names fails b
  pub lines : text ≡ open_lines n f g a b
