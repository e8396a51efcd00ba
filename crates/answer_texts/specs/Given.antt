-- Which lists of cubes an engine gives.
use Rattle.std.specs.Prelude.{ℕ, List}
use Rattle.formula_ast.specs.declared.file.File.{File}
use Rattle.formula_ast.specs.declared.statement.Statement.{Statement}
use Rattle.formula_ast.specs.Forms.{Form}
use Rattle.flat_form.specs.declared.cube.Cube.{Cube}
use Rattle.flat_form.specs.Normals.{Norm}
use Rattle.game_library.specs.Entries.{IsGivenFor}
use Rattle.decision.specs.Naming.{ranks_of}

-- the cubes are a list that the engine gives for a formula with the free variables of the statement
abbrev pub GivenLists : (ℕ → Norm → List Cube → Type 0) → File → Statement → Form → List Cube → Type 0
GivenLists gives file s f cubes = IsGivenFor gives file (ranks_of s.body) f cubes
