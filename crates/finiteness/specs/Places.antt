-- Places in a conjunction.
use Rattle.std.specs.Prelude.{ℕ, ◌≡◌, ◌<◌, List, length, slice_index_or}
use Rattle.tree_model.specs.declared.tree.Symbol.{Symbol}
use Rattle.flat_form.specs.declared.atom.Flat.{Flat}
use Rattle.flat_form.specs.declared.atom.Flat.TheVariants.{VarTerm}

-- the atom stands at this place
abbrev pub StandsAt : List Flat → ℕ → Flat → Type 0
StandsAt basic place atom = (place < length basic) × (slice_index_or basic place atom ≡ atom)

-- at this place v is left of an equation with a term
abbrev pub HasTermAt : List Flat → ℕ → ℕ → Type 0
HasTermAt basic place v = (symbol : Symbol) × (arguments : List ℕ) × StandsAt basic place (VarTerm v symbol arguments)
