-- What is asked of a formula and a table, and what is promised of them.
use Rattle.std.specs.Prelude.{◌≡◌, ◌⊎◌, ℕ, ◌↔◌, List, ◌++◌, length, All, Contains}
use Rattle.lists.specs.Distinct.{IsDistinct}
use Rattle.tree_model.specs.declared.tree.Symbol.{Symbol}
use Rattle.tree_model.specs.Valuations.{Valuation}
use Rattle.formula_ast.specs.declared.file.File.{File}
use Rattle.formula_ast.specs.Forms.{Form}
use Rattle.formula_ast.specs.Satisfaction.{Holds, meaning_of}
use Rattle.formula_ast.specs.WellFormed.{FormOver}
use Rattle.flat_form.specs.declared.cube.Cube.{Cube}
use Rattle.flat_form.specs.Meanings.{SomeHolds}
use Rattle.flat_form.specs.Normals.{Norm}
use Rattle.flat_form.specs.Numbering.{CubesOver}
use Rattle.flat_form.specs.Reduced.{IsReduced}
use Rattle.flat_form.specs.Symbols.{cubes_symbols}
use Rattle.flattening.specs.declared.solved.Key.{Key}
use Rattle.flattening.specs.Conditions.{GivesRanks}
use Rattle.flattening.specs.Symbols.{form_symbols}
use Rattle.game_library.specs.Entries.{StandsInBodies, IsGivenFor}

-- the formula is over the file's signature, all of whose predicates may be called, and some number of variables
abbrev pub IsOverFile : File → Form → Type 0
IsOverFile file f = (n : ℕ) × FormOver file.signature file.signature n f

-- the symbol stands, with so many arguments, in the formula or in the body of a predicate of the file
abbrev pub StandsIn : File → Form → Symbol × ℕ → Type 0
StandsIn file f symbol = Contains (form_symbols f) symbol ⊎ StandsInBodies file symbol

-- the new table begins with the old one
abbrev pub IsGrown : List (Key × List Cube) → List (Key × List Cube) → Type 0
IsGrown old new = (more : List (Key × List Cube)) × (new ≡ old ++ more)

-- One of the cubes holds under a valuation exactly where the formula is satisfied, with the variable `ranks[i]` as
-- number i.
abbrev pub SolvesForm : File → List ℕ → Form → List Cube → Type 0
SolvesForm file ranks f cubes = (d e : Valuation file.signature) → GivesRanks ranks d e
    → SomeHolds e cubes ↔ Holds file.signature (meaning_of file.signature file.preds) f d

-- the cubes are an engine's list for the formula, and mean it
pub record IsSolved (gives : ℕ → Norm → List Cube → Type 0) (file : File) (ranks : List ℕ) (f : Form) (cubes : List Cube) : Type 0 where
  pub given : IsGivenFor gives file ranks f cubes
  pub over : CubesOver (length ranks) cubes
  pub reduced : All IsReduced cubes
  pub distinct : IsDistinct cubes
  pub symbols : All (StandsIn file f) (cubes_symbols cubes)
  pub meaning : SolvesForm file ranks f cubes
