-- Numbers in order.
use Rattle.std.proofs.Common.{◌≡◌, ℕ, zero, suc, ◌+◌, ◌-◌, ◌<◌, ◌≤◌, Bool, true, false, cond, ◌∷◌, ◌++◌, nat_lt, refl, sym, ap, subst, ◌∙◌, ◌⊎◌, inl, inr, arith}
use Rattle.std.specs.Prelude.{All, Contains, nat_eq}
use Rattle.std.specs.List.{range_with_len, position_or_len}
use Rattle.std.proofs.lemmas.Bool.{cases_eq, ltb-false, ne_eqb, eq-eqb}
use Rattle.std.proofs.lemmas.List.FromFn.{length-range_with_len, get_or-range_with_len}
use Rattle.std.proofs.lemmas.List.Sums.{position_or_len_is}
use Rattle.lists.specs.Distinct.{IsDistinct}
use Rattle.explicit_form.specs.Shape.{rank}

-- each of the numbers has what each from a up to a + n has
pub all_range : (P : ℕ → Type 0) (a n : ℕ) → ((v : ℕ) → a ≤ v → v < a + n → P v) → All P (range_with_len a n)
all_range P a n each k d w =
    let less : k < n = omega (arith, length-range_with_len a n) in
    subst P (sym (get_or-range_with_len a n k d less)) (each (a + k) (omega arith) (omega arith))

pub in_range : (a n v : ℕ) → a ≤ v → v < a + n → Contains (range_with_len a n) v
in_range a zero v le less = absurd (omega arith)
in_range a (suc n) v le less = by (λ lower. in_range (a + 1) n v lower (omega arith)) (cases_eq a v)
  where
    by : (a + 1 ≤ v → Contains (range_with_len (a + 1) n) v) → (a ≡ v) ⊎ (a ≡ v → ⊥) → Contains (range_with_len a (suc n)) v
    by rest (inl is) = (0, omega arith, is)
    by rest (inr ne) = let c = rest (omega arith) in (suc c.0, omega (arith, c.1), c.2)

pub range_in : (a n v : ℕ) → Contains (range_with_len a n) v → (a ≤ v) × (v < a + n)
range_in a n v (i, w, is) =
    let less : i < n = omega (arith, length-range_with_len a n) in
    let at_i : a + i ≡ v = sym (get_or-range_with_len a n i v less) ∙ is in (omega arith, omega arith)

pub range_distinct : (a n : ℕ) → IsDistinct (range_with_len a n)
range_distinct a zero = tt
range_distinct a (suc n) = (λ c. absurd (omega (arith, (range_in (a + 1) n a c).0)), range_distinct (a + 1) n)

pub range_joined : (a n k : ℕ) → range_with_len a n ++ range_with_len (a + n) k ≡ range_with_len a (n + k)
range_joined a zero k =
    let first : a + 0 ≡ a = omega arith in
    let all : k ≡ 0 + k = omega arith in
    ap (λ b. range_with_len b k) first ∙ ap (range_with_len a) all
range_joined a (suc n) k =
    let first : a + suc n ≡ a + 1 + n = omega arith in
    let all : suc (n + k) ≡ suc n + k = omega arith in
    ap (λ l. a ∷ l) (ap (λ b. range_with_len (a + 1) n ++ range_with_len b k) first ∙ range_joined (a + 1) n k) ∙ ap (range_with_len a) all

-- the rank of a variable is its number, where the bound ones are numbered from the free ones on
pub rank_is : (free n v : ℕ) → v < free + n → rank free (range_with_len free n) v ≡ v
rank_is free n v less = by (nat_lt v free) refl
  where
    by : (b : Bool) → nat_lt v free ≡ b → cond b v (free + position_or_len (nat_eq v) (range_with_len free n)) ≡ v
    by true is = refl
    by false is =
        let above : free ≤ v = ltb-false v free is in
        let sum : free + (v - free) ≡ v = omega arith in
        let at_v : position_or_len (nat_eq v) (range_with_len free n) ≡ v - free =
        position_or_len_is (nat_eq v) (range_with_len free n) (v - free) 0 (omega (arith, length-range_with_len free n))
        (λ k w. ap (nat_eq v) (get_or-range_with_len free n k 0 (omega arith)) ∙ ne_eqb v (free + k) (λ same. absurd (omega arith)))
        (λ w. ap (nat_eq v) (get_or-range_with_len free n (v - free) 0 (omega arith)) ∙ eq-eqb v (free + (v - free)) (sym sum)) in
        ap (λ p. free + p) at_v ∙ sum
