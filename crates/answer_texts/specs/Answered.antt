-- What a right answer of a statement is, as a text.
use Rattle.std.specs.Prelude.{◌≡◌, ◌↔◌, ℕ, ◌-◌, ◌<◌, ◌≤◌, List, [], ◌++◌, length, decimal, codes, get_or, slice_get, Some}
use Rattle.tree_model.specs.Graphs.{Forest, AreInRange, tree_of}
use Rattle.tree_model.specs.Signatures.{Fits}
use Rattle.tree_model.specs.Trees.{Same}
use Rattle.formula_ast.specs.declared.file.File.{File}
use Rattle.formula_ast.specs.declared.statement.Statement.{Statement}
use Rattle.formula_ast.specs.Forms.{Form, form_of, no}
use Rattle.formula_ast.specs.Satisfaction.{Holds, meaning_of}
use Rattle.formula_ast.specs.Valid.{IsValid, IsUnsatisfiable, Satisfies}
use Rattle.flat_form.specs.declared.cube.Cube.{Cube}
use Rattle.formula_grammar.specs.Reading.{ReadsAsNamed}
use Rattle.formula_grammar.specs.Written.{Text}
use Rattle.formula_printer.specs.Assignments.{assignment_form, assignment_names}
use Rattle.formula_printer.specs.Texts.{text_of}
use Rattle.formula_printer.specs.Writing.{written}
use Rattle.explicit_form.specs.Explicit.{explicit_of, explicit_names}
use Rattle.explicit_form.specs.Shape.{IsExplicit}
use Rattle.witness_trees.specs.Fresh.{IsFreshAssignment}
use Rattle.named_readings.specs.Naming.{Naming, valued}
use Rattle.decision.specs.Naming.{free_names, used_indexes}

-- the n-th statement of the file, counted from 1
abbrev pub IsNth : File → ℕ → Statement → Type 0
IsNth file n s = (1 ≤ n) × (slice_get file.solves (n - 1) ≡ Some s)

-- the trees satisfy the statement, as values of the variables with these names
abbrev pub SatisfiedBy : (file : File) → Statement → Naming file.signature → Type 0
SatisfiedBy file s v = Satisfies file s.body (valued v s.names)

-- the trees do not
abbrev pub RefutedBy : (file : File) → Statement → Naming file.signature → Type 0
RefutedBy file s v = ¬ SatisfiedBy file s v

-- each free name of the statement has the tree of its root
abbrev pub Gives : (file : File) → Statement → Forest → Naming file.signature → Type 0
Gives file s a v = (i : ℕ) → i < length (free_names s) → Same (v (get_or (free_names s) i [])).graph (tree_of a i)

-- The text reads as a formula, with no limit of length, which holds exactly under the trees with P, as values of the
-- variables with these names.
pub record MeansByName (file : File) (text : Text) (P : Naming file.signature → Type 0) : Type 0 where
  pub names : List Text
  pub form : Form
  pub reads : ReadsAsNamed file.signature text names form
  pub exactly : (v : Naming file.signature) → Holds file.signature (meaning_of file.signature file.preds) form (valued v names) ↔ P v

-- The text is that of the explicit formula of these cubes, over the free names of the statement by rank, and holds exactly
-- under the trees with P.
pub record IsFormulaText (file : File) (s : Statement) (cubes : List Cube) (P : Naming file.signature → Type 0) (text : Text) : Type 0 where
  pub explicit : IsExplicit (length (free_names s)) (explicit_of cubes)
  pub is : text ≡ text_of (written file.signature (explicit_names (free_names s) cubes) (explicit_of cubes))
  pub means : MeansByName file text P

-- The text is that of the fresh assignment of the first of these cubes, for the free names of the statement by rank. It
-- holds under one assignment of trees to these names alone, up to sameness, and these trees have P.
pub record IsTreesText (file : File) (s : Statement) (cubes : List Cube) (P : Naming file.signature → Type 0) (text : Text) : Type 0 where
  pub first : Cube
  pub is_first : slice_get cubes 0 ≡ Some first
  pub assignment : Forest
  pub in_range : AreInRange assignment.nodes assignment.roots
  pub fits : Fits file.signature assignment.nodes
  pub roots : length assignment.roots ≡ length (free_names s)
  pub fresh : IsFreshAssignment first (used_indexes file s.body) assignment
  pub is : text ≡ text_of (written file.signature (assignment_names (free_names s) assignment) (assignment_form assignment))
  pub one : MeansByName file text (Gives file s assignment)
  pub right : (v : Naming file.signature) → Gives file s assignment v → P v

-- a line of an open answer
abbrev pub line : ℕ → Text → Text → Text
line n word text = decimal n ++ codes " " ++ word ++ codes " " ++ text ++ codes "\n"

-- the four lines of an open answer
abbrev pub open_lines : ℕ → Text → Text → Text → Text → Text
open_lines n formula complement holds fails =
    line n (codes "open") formula ++ line n (codes "else") complement ++ line n (codes "holds") holds ++ line n (codes "fails") fails

-- Which lists of cubes may be shown for a formula of the file.
module _ (lists : File → Statement → Form → List Cube → Type 0) where
  -- the lines of an open answer of the statement, which show such lists
  pub record IsOpenText (file : File) (s : Statement) (formula complement holds fails : Text) : Type 0 where
    pub cubes : List Cube
    pub others : List Cube
    pub listed : lists file s (form_of s.body) cubes
    pub others_listed : lists file s (no (form_of s.body)) others
    pub formula_is : IsFormulaText file s cubes (SatisfiedBy file s) formula
    pub complement_is : IsFormulaText file s others (RefutedBy file s) complement
    pub holds_is : IsTreesText file s cubes (SatisfiedBy file s) holds
    pub fails_is : IsTreesText file s others (RefutedBy file s) fails

  -- a right answer of the n-th statement of the file
  pub data IsAnswer (file : File) (n : ℕ) (s : Statement) : Text → Type 0 where
    -- every valuation satisfies it
    valid : IsValid file s → IsAnswer file n s (decimal n ++ codes " true\n")
    -- none does
    unsatisfiable : IsUnsatisfiable file s → IsAnswer file n s (decimal n ++ codes " false\n")
    -- some do
    neither : {formula complement holds fails : Text} → IsOpenText file s formula complement holds fails
        → IsAnswer file n s (open_lines n formula complement holds fails)

  -- this text is a right answer of the n-th statement of the file
  pub record Answered (file : File) (n : ℕ) (text : Text) : Type 0 where
    pub statement : Statement
    pub is_nth : IsNth file n statement
    pub is : IsAnswer file n statement text
