-- Numbers as they are written.
use Rattle.std.specs.Prelude.{ℕ, ◌+◌, ◌==◌, List, [], ◌∷◌, map, if◌then◌else◌}
use Rattle.std.specs.Int.Digits.{digits_of}

-- the decimal digits of a number, without leading zeros
unfoldable pub numeral : ℕ → List ℕ
numeral n = if n == 0 then 48 ∷ [] else map (λ digit. 48 + digit) (digits_of 10 n)
