-- Whether an atom stays in a part.
use Rattle.std.specs.Prelude.{ℕ, Bool, false, ltb, List, slice_index_or}
use Rattle.flat_form.specs.declared.atom.Flat.{Flat}
use Rattle.flat_form.specs.declared.atom.Flat.TheVariants.{VarVar, VarTerm, Finite}

-- what stays: variable equations of the first m variables, and what stands at variables with a mark
abbrev pub is_kept_by : ℕ → List Bool → Flat → Bool
is_kept_by m marks (VarVar u v) = ltb u m
is_kept_by m marks (VarTerm u symbol xs) = slice_index_or marks u false
is_kept_by m marks (Finite u) = slice_index_or marks u false
