-- Tables of solved predicates and wins.
use Rattle.std.specs.Prelude.{◌&&◌, Bool, false, nat_eq, List, [], ◌∷◌, cond, Contains, Option, Some, None}
use Rattle.flat_form.specs.declared.cube.Cube.{Cube}
use Rattle.flattening.specs.declared.solved.Key.{Key}
use Rattle.flattening.specs.declared.solved.Key.TheVariants.{Call, Win}

-- the key stands in the table
abbrev pub HasKey : List (Key × List Cube) → Key → Type 0
HasKey table key = (cubes : List Cube) × Contains table (key, cubes)

-- no key stands in the table twice
abbrev pub HasDistinctKeys : List (Key × List Cube) → Type 0
HasDistinctKeys [] = Unit {0}
HasDistinctKeys (entry ∷ rest) = (¬ HasKey rest entry.0) × HasDistinctKeys rest

-- both are one key
abbrev pub same_key : Key → Key → Bool
same_key (Call p) (Call q) = nat_eq p q
same_key (Win p k) (Win q j) = nat_eq p q && nat_eq k j
same_key (Call p) (Win q j) = false
same_key (Win p k) (Call q) = false

-- the first entry of a key
abbrev pub entry_at : List (Key × List Cube) → Key → Option (List Cube)
entry_at [] key = None
entry_at (entry ∷ rest) key = cond (same_key key entry.0) (Some entry.1) (entry_at rest key)

-- the cubes of an entry, if there is one
abbrev pub cubes_of : Option (List Cube) → List Cube
cubes_of None = []
cubes_of (Some cubes) = cubes

-- the cubes of a key
abbrev pub cubes_at : List (Key × List Cube) → Key → List Cube
cubes_at table key = cubes_of (entry_at table key)
