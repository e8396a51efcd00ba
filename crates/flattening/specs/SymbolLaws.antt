-- The symbols of a flattened formula: they stand in the formula or in the table.
use Rattle.std.specs.Prelude.{ℕ, ◌⊎◌, List, All, Contains}
use Rattle.tree_model.specs.declared.tree.Symbol.{Symbol}
use Rattle.tree_model.specs.Signatures.{Signature}
use Rattle.flat_form.specs.declared.cube.Cube.{Cube}
use Rattle.flat_form.specs.Fitting.{NormFits}
use Rattle.flat_form.specs.Symbols.{cubes_symbols, norm_symbols, AreRoots, CubesFit}
use Rattle.formula_ast.specs.Forms.{Form}
use Rattle.flattening.specs.declared.solved.Key.{Key}
use Rattle.flattening.specs.Flattening.{flattening_of}
use Rattle.flattening.specs.Symbols.{form_symbols}
use Rattle.flattening.specs.Plain.{plain_of}
use Rattle.flattening.specs.Conditions.{FormulaFits}

-- the symbol stands, with so many arguments, in the cubes of some entry of the table
abbrev pub StandsInTable : List (Key × List Cube) → Symbol × ℕ → Type 0
StandsInTable table p = (key : Key) × (cubes : List Cube) × Contains table (key, cubes) × Contains (cubes_symbols cubes) p

-- each symbol of a flattened formula stands in the formula or in the table
abbrev pub FlattenedSymbols : Type 0
FlattenedSymbols = (ranks : List ℕ) (table : List (Key × List Cube)) (f : Form)
    → All (λ (p : Symbol × ℕ). Contains (form_symbols f) p ⊎ StandsInTable table p) (norm_symbols (flattening_of ranks table f))

-- so it fits what the formula and the cubes of the table fit
abbrev pub FlattenedFits : Type 0
FlattenedFits = (σ : Signature) (ranks : List ℕ) (table : List (Key × List Cube)) (f : Form) → AreRoots σ (form_symbols f)
    → ((key : Key) (cubes : List Cube) → Contains table (key, cubes) → CubesFit σ cubes) → NormFits σ (flattening_of ranks table f)

-- a formula that fits has root symbols alone
abbrev pub FormSymbolsFit : Type 0
FormSymbolsFit = (σ : Signature) (f : Form) → FormulaFits σ (plain_of f) → AreRoots σ (form_symbols f)
