-- What being well formed is like.
use Rattle.std.specs.Prelude.{◌≡◌, ℕ, [], take}
use Rattle.classical.specs.Classical.{IsStable}
use Rattle.tree_model.specs.Signatures.{Signature}
use Rattle.formula_ast.specs.declared.file.File.{File}
use Rattle.formula_ast.specs.declared.statement.Statement.{Statement}
use Rattle.formula_ast.specs.Forms.{Form}
use Rattle.formula_ast.specs.WellFormed.{FormOver, IsStatementOver, IsWellFormed}

-- being a well formed formula, statement or file is stable
abbrev pub FormingIsStable : Type 0
FormingIsStable = (σ callable : Signature) (n : ℕ) (f : Form) → IsStable (FormOver σ callable n f)

abbrev pub StatementsAreStable : Type 0
StatementsAreStable = (σ : Signature) (s : Statement) → IsStable (IsStatementOver σ s)

abbrev pub FilesAreStable : Type 0
FilesAreStable = (file : File) → IsStable (IsWellFormed file)

-- what calls the first predicates alone calls predicates of the signature
abbrev pub CallsStayDeclared : Type 0
CallsStayDeclared = (σ : Signature) (place n : ℕ) (f : Form) → FormOver σ (take place σ) n f → FormOver σ σ n f

-- a file that declares and asks nothing is well formed
abbrev pub EmptyIsWellFormed : Type 0
EmptyIsWellFormed = (file : File) → file.signature ≡ [] → file.preds ≡ [] → file.solves ≡ [] → IsWellFormed file
