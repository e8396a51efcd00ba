-- Ranges that grow at their end.
use Rattle.std.proofs.Common.{◌≡◌, ℕ, zero, suc, ◌+◌, [], ◌∷◌, ◌++◌, ap, add-one, arith}
use Rattle.std.specs.List.{range_with_len}

range_next : (a n j : ℕ) → a + n ≡ j → range_with_len a (suc n) ≡ range_with_len a n ++ j ∷ []
range_next a zero j e = ap (λ x. x ∷ []) (omega (arith, e))
range_next a (suc n) j e = ap (λ l. a ∷ l) (range_next (a + 1) n j (omega (arith, e)))

pub range_more : (n : ℕ) → range_with_len 0 (n + 1) ≡ range_with_len 0 n ++ n ∷ []
range_more n = rw add-one (range_next 0 n n (omega arith))
