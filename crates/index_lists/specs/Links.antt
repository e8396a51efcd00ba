-- Cells that are linked both ways.
use Rattle.std.specs.Prelude.{◌≡◌, ℕ, ◌<◌, List, map, length, slice_index}
use Rattle.index_lists.specs.declared.Links.{Links}

abbrev pub nexts : List Links → List ℕ
nexts cells = map (λ l. l.next) cells

abbrev pub previouses : List Links → List ℕ
previouses cells = map (λ l. l.previous) cells

-- each link leads to a cell whose other link leads back
pub record ArePaired (next previous : List ℕ) : Type 0 where
  pub same : length next ≡ length previous
  pub forth : (i : ℕ) → i < length next → (slice_index next i < length next) × (slice_index previous (slice_index next i) ≡ i)
  pub back : (i : ℕ) → i < length next → (slice_index previous i < length next) × (slice_index next (slice_index previous i) ≡ i)

abbrev pub AreLinked : List Links → Type 0
AreLinked cells = ArePaired (nexts cells) (previouses cells)
