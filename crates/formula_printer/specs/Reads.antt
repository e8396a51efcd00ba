-- What a printed text reads as.
use Rattle.std.specs.Prelude.{◌≡◌, true, List, All}
use Rattle.tree_model.specs.Signatures.{Signature}
use Rattle.formula_ast.specs.Forms.{Form}
use Rattle.formula_grammar.specs.Checks.{is_among}
use Rattle.formula_grammar.specs.Meaning.{Stands, variables_in}
use Rattle.formula_grammar.specs.Reading.{ReadsAsNamed}
use Rattle.formula_grammar.specs.Written.{Text}

-- The text reads as a formula whose variables are named by first occurrence. Each of these is one of the given names, and
-- where each variable is the one with its name among those, the formula is this one.
pub record ReadsBack (σ : Signature) (names : List Text) (bytes : Text) (f : Form) : Type 0 where
  pub names_read : List Text
  pub form_read : Form
  pub reads : ReadsAsNamed σ bytes names_read form_read
  pub known : All (λ x. is_among x names ≡ true) (variables_in reads.formula)
  pub stands : Stands σ names reads.formula f
