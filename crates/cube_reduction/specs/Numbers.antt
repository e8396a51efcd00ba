-- New numbers of variables, and parts with them.
use Rattle.std.specs.Prelude.{ℕ, ◌+◌, ◌-◌, cond, ltb, List, ◌++◌, map, length, slice_index}
use Rattle.flat_form.specs.declared.atom.Flat.{Flat}
use Rattle.flat_form.specs.declared.cube.Part.{Part}
use Rattle.flat_form.specs.Parts.{renumbered}

-- the number of v: by the table, and from the table's length on behind the others, as they stood
abbrev pub number_in : List ℕ → ℕ → ℕ → ℕ
number_in table behind v = cond (ltb v (length table)) (slice_index table v) (behind + (v - length table))

-- the part with new numbers, with these atoms before its own, and with so many inner variables more
abbrev pub moved_into : (ℕ → ℕ) → ℕ → List Flat → Part → Part
moved_into f more moved part = record { inner = more + part.inner; basic = moved ++ map (renumbered f) part.basic }
