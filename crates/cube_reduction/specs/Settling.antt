-- What one part comes to.
use Rattle.std.specs.Prelude.{ℕ, List, ◌++◌, Option, MatchOption}
use Rattle.flat_form.specs.declared.atom.Flat.{Flat}
use Rattle.flat_form.specs.declared.cube.Part.{Part}
use Rattle.flat_form.specs.Meanings.{HasNone}
use Rattle.flat_form.specs.Steps.{SettlesTo}

-- the part, over the first so many variables and the base, comes to this, or has no solution beside the base
abbrev pub ComesTo : ℕ → List Flat → Part → Option Part → Type 0
ComesTo count base part outcome = MatchOption outcome (HasNone (base ++ part.basic)) (SettlesTo count base part)
