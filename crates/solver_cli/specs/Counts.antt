-- The line that counts the verdicts of the statements of a file.
use Rattle.std.specs.Prelude.{◌≡◌, ℕ, Bool, true, false, List, ◌++◌, codes, decimal, count_by}
use Rattle.std.specs.List.{AllZip}
use Rattle.formula_ast.specs.declared.statement.Statement.{Statement}
use Rattle.formula_ast.specs.Valid.{IsValid, IsUnsatisfiable}
use Rattle.solver_cli.specs.Language.{File}
use Rattle.solver_cli.specs.declared.counting.Counts.{Counts}
use Rattle.solver_cli.specs.declared.counting.Verdict.{Verdict}
use Rattle.solver_cli.specs.declared.counting.Verdict.TheVariants.{Valid, Unsatisfiable, Neither}

-- the verdict is right: every valuation satisfies the statement, none does, or some do and some do not
abbrev pub IsRightVerdict : File → Statement → Verdict → Type 0
IsRightVerdict file s Valid = IsValid file s
IsRightVerdict file s Unsatisfiable = IsUnsatisfiable file s
IsRightVerdict file s Neither = (¬ IsValid file s) × (¬ IsUnsatisfiable file s)

abbrev pub is_valid : Verdict → Bool
is_valid Valid = true
is_valid Unsatisfiable = false
is_valid Neither = false

abbrev pub is_unsatisfiable : Verdict → Bool
is_unsatisfiable Valid = false
is_unsatisfiable Unsatisfiable = true
is_unsatisfiable Neither = false

abbrev pub is_neither : Verdict → Bool
is_neither Valid = false
is_neither Unsatisfiable = false
is_neither Neither = true

-- the line of three numbers
abbrev pub counts_line : ℕ → ℕ → ℕ → List ℕ
counts_line valid unsatisfiable neither =
    codes "true " ++ decimal valid ++ codes " false " ++ decimal unsatisfiable ++ codes " open " ++ decimal neither ++ codes "\n"

-- the text is the line that counts right verdicts, one of each statement of the file
pub record IsCountsText (file : File) (text : List ℕ) : Type 0 where
  pub verdicts : List Verdict
  pub right : AllZip (IsRightVerdict file) file.solves verdicts
  pub is : text ≡ counts_line (count_by is_valid verdicts) (count_by is_unsatisfiable verdicts) (count_by is_neither verdicts)

-- the numbers are those of the verdicts of each kind
pub record AreCounts (counts : Counts) (verdicts : List Verdict) : Type 0 where
  pub valid : counts.valid ≡ count_by is_valid verdicts
  pub unsatisfiable : counts.unsatisfiable ≡ count_by is_unsatisfiable verdicts
  pub neither : counts.neither ≡ count_by is_neither verdicts

-- the numbers count right verdicts, one of each of these statements of the file
abbrev pub Count : File → List Statement → Counts → Type 0
Count file statements counts = (verdicts : List Verdict) × AllZip (IsRightVerdict file) statements verdicts × AreCounts counts verdicts
