-- Where names stand in a signature.
use Rattle.std.specs.Prelude.{◌≡◌, ℕ, List, slice_get, position, Option, Some, option_map}
use Rattle.std.specs.Str.{bytes_eq}
use Rattle.tree_model.specs.Signatures.{Signature, Entry}

-- the name stands at this place
abbrev pub StandsAt : Signature → List ℕ → ℕ → Type 0
StandsAt σ name place = option_map {T = Entry} {U = List ℕ} (λ entry. entry.name) (slice_get σ place) ≡ Some name

-- no name stands at two places
abbrev pub HasDistinctNames : Signature → Type 0
HasDistinctNames σ = (name : List ℕ) (i j : ℕ) → StandsAt σ name i → StandsAt σ name j → i ≡ j

-- the first place at which the name stands
abbrev pub place_of : Signature → List ℕ → Option ℕ
place_of σ name = position (λ entry. bytes_eq name entry.name) σ
