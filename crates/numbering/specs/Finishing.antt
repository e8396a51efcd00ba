-- Lists of parts, each once.
use Rattle.std.specs.Prelude.{List, [], ◌∷◌, ◌++◌, Contains}
use Rattle.flat_form.specs.declared.cube.Part.{Part}

-- the part stands last, unless it was in the list
pub data Joins (part : Part) (old : List Part) : List Part → Type 0 where
  there : Contains old part → Joins part old old
  last : ¬ Contains old part → Joins part old (old ++ part ∷ [])
