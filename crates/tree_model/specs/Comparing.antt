-- The pairs of places at which two trees are compared.
use Rattle.std.specs.Prelude.{◌≡◌, ℕ, ◌+◌, ◌*◌, ◌<◌, Bool, true, false, if◌then◌else◌, List, [], ◌++◌, length, slice_index_or, All, Contains, sum_by, ◌⊎◌}

-- how many are not marked
abbrev pub unmarked : List Bool → ℕ
unmarked marks = sum_by (λ marked. if marked then 0 else 1) marks

-- pairs of numbers below a height and below a width, and how many more there may be
pub record Table : Type 0 where
  pub pairs : List (ℕ × ℕ)
  pub left : ℕ
  pub height : ℕ
  pub width : ℕ

-- the marks stand row by row, and what is marked is among the pairs
pub record IsTable (pairs : List (ℕ × ℕ)) (marks : List Bool) (height width : ℕ) : Type 0 where
  pub size : length marks ≡ width * height
  pub within : All (λ pair. (pair.0 < height) × (pair.1 < width)) pairs
  pub listed : (x y : ℕ) → x < height → y < width → slice_index_or marks (x * width + y) false ≡ true → Contains pairs (x, y)

-- there are no pairs yet
pub record IsEmptyTable (height width : ℕ) (table : Table) : Type 0 where
  pub none : table.pairs ≡ []
  pub height_is : table.height ≡ height
  pub width_is : table.width ≡ width

-- the pairs are behind those before, as far as they are not among them
pub record Adds (before after : Table) (pairs : List (ℕ × ℕ)) : Type 0 where
  pub grown : (rest : List (ℕ × ℕ)) × (after.pairs ≡ before.pairs ++ rest)
  pub only : (pair : ℕ × ℕ) → Contains after.pairs pair → Contains before.pairs pair ⊎ Contains pairs pair
  pub all : All (Contains after.pairs) pairs
  pub counted : length after.pairs + after.left ≡ length before.pairs + before.left
  pub height_kept : after.height ≡ before.height
  pub width_kept : after.width ≡ before.width
