-- Solved conjunctions that are kept, and what became of parts over them.
use Rattle.std.specs.Prelude.{◌≡◌, List, Some, slice_get}
use Rattle.flat_form.specs.declared.atom.Flat.{Flat}
use Rattle.cube_reduction.specs.declared.memory.Known.{Known}
use Rattle.cube_reduction.specs.Fates.{Becomes}

-- the base is kept, and this is what becomes of the part over it
abbrev pub IsRight : List (List Flat) → Known → Type 0
IsRight bases known = (base : List Flat) × (slice_get bases known.base ≡ Some base) × Becomes known.count base known.part known.fate
