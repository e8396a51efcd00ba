-- The order of bound variables, and their ranks.
use Rattle.std.proofs.Common.{◌≡◌, ℕ, ◌+◌, ◌<◌, ◌≤◌, Bool, true, false, cond, not, List, [], ◌∷◌, ◌++◌, refl, sym, ap, arith, nat_lt, Some, None}
use Rattle.std.specs.Prelude.{◌↔◌, nat_eq, IsTrue}
use Rattle.std.proofs.lemmas.Bool.{eqb-true, eqb-false}
use Rattle.std.proofs.lemmas.Bool.Decides.{nat_tests}
use Rattle.flat_form.specs.Orders.{place_of}
use Rattle.explicit_form.specs.Pieces.{first_met}
use Rattle.explicit_form.specs.Shape.{rank, IsSmaller}

-- ---- which of two variables comes first

earlier_by : (x u v : ℕ) (xs : List ℕ) → (first_met xs v u ≡ Some true) ↔ (place_of xs v < place_of xs u) → (a b c d : Bool) → nat_eq x u ≡ a → nat_eq x v ≡ b → nat_eq u x ≡ c → nat_eq v x ≡ d
    → (cond a (Some false) (cond b (Some true) (first_met xs v u)) ≡ Some true) ↔ (cond (not d) (1 + place_of xs v) 0 < cond (not c) (1 + place_of xs u) 0)
earlier_by x u v xs rest true b true d xu xv ux vx = (λ e. absurd (cc e), λ less. absurd (omega arith))
earlier_by x u v xs rest true b false d xu xv ux vx = absurd (eqb-false u x ux (sym (eqb-true x u xu)))
earlier_by x u v xs rest false b true d xu xv ux vx = absurd (eqb-false x u xu (sym (eqb-true u x ux)))
earlier_by x u v xs rest false true false true xu xv ux vx = (λ e. omega arith, λ less. refl)
earlier_by x u v xs rest false true false false xu xv ux vx = absurd (eqb-false v x vx (sym (eqb-true x v xv)))
earlier_by x u v xs rest false false false true xu xv ux vx = absurd (eqb-false x v xv (sym (eqb-true v x vx)))
earlier_by x u v xs rest false false false false xu xv ux vx = (λ e. omega (arith, rest.0 e), λ less. rest.1 (omega arith))

-- the first of both is v exactly where its place comes before that of u
pub earlier : (xs : List ℕ) (v u : ℕ) → (first_met xs v u ≡ Some true) ↔ (place_of xs v < place_of xs u)
earlier [] v u = (λ e. absurd (cc e), λ less. absurd (omega arith))
earlier (x ∷ xs) v u = earlier_by x u v xs (earlier xs v u) (nat_eq x u) (nat_eq x v) (nat_eq u x) (nat_eq v x) refl refl refl refl

-- of two lists the second one decides where the first one has neither
pub met_outside : (xs ys : List ℕ) (v u : ℕ) (b : Bool) → first_met xs v u ≡ Some b → first_met (xs ++ ys) v u ≡ Some b
met_outside [] ys v u b e = absurd (cc e)
met_outside (x ∷ xs) ys v u b e = by (met_outside xs ys v u b) (nat_eq x u) (nat_eq x v) e
  where
    by : (first_met xs v u ≡ Some b → first_met (xs ++ ys) v u ≡ Some b) → (c d : Bool) → cond c (Some false) (cond d (Some true) (first_met xs v u)) ≡ Some b → cond c (Some false) (cond d (Some true) (first_met (xs ++ ys) v u)) ≡ Some b
    by rest true d e = e
    by rest false true e = e
    by rest false false e = rest e

pub met_inside : (xs ys : List ℕ) (v u : ℕ) → first_met xs v u ≡ None → first_met (xs ++ ys) v u ≡ first_met ys v u
met_inside [] ys v u e = refl
met_inside (x ∷ xs) ys v u e = by (met_inside xs ys v u) (nat_eq x u) (nat_eq x v) e
  where
    by : (first_met xs v u ≡ None → first_met (xs ++ ys) v u ≡ first_met ys v u) → (c d : Bool) → cond c (Some false) (cond d (Some true) (first_met xs v u)) ≡ None → cond c (Some false) (cond d (Some true) (first_met (xs ++ ys) v u)) ≡ first_met ys v u
    by rest true d e = absurd (cc e)
    by rest false true e = absurd (cc e)
    by rest false false e = rest e

pub decided : (xs : List ℕ) (v u : ℕ) (b : Bool) → first_met xs v u ≡ Some b → IsTrue b ↔ (place_of xs v < place_of xs u)
decided xs v u true e = (λ t. (earlier xs v u).0 e, λ less. refl)
decided xs v u false e = (λ t. absurd (cc t), λ less. absurd (cc (e, (earlier xs v u).1 less)))

pub undecided : (xs : List ℕ) (v u : ℕ) → first_met xs v u ≡ None → ¬ (place_of xs v < place_of xs u)
undecided xs v u e less = absurd (cc (e, (earlier xs v u).1 less))

-- ---- ranks

pub rank_free : (free v : ℕ) (block : List ℕ) → v < free → rank free block v ≡ v
rank_free free v block less = let is : nat_lt v free ≡ true = grind (arith, nat_tests) in ap (λ b. cond b v (free + place_of block v)) is

pub rank_bound : (free v : ℕ) (block : List ℕ) → free ≤ v → rank free block v ≡ free + place_of block v
rank_bound free v block le = let is : nat_lt v free ≡ false = grind (arith, nat_tests) in ap (λ b. cond b v (free + place_of block v)) is

-- a free variable is smaller than each that is bound, and than greater ones
pub free_smaller : (free v u : ℕ) (block : List ℕ) → v < free → free ≤ u → IsSmaller free block v u
free_smaller free v u block less le = omega (arith, rank_free free v block less, rank_bound free u block le)

pub both_free : (free v u : ℕ) (block : List ℕ) → v < free → u < free → IsSmaller free block v u ↔ (v < u)
both_free free v u block less more = (λ s. omega (arith, s, rank_free free v block less, rank_free free u block more), λ s. omega (arith, s, rank_free free v block less, rank_free free u block more))

pub not_smaller : (free v u : ℕ) (block : List ℕ) → free ≤ v → u < free → ¬ IsSmaller free block v u
not_smaller free v u block le less s = absurd (omega (arith, s, rank_bound free v block le, rank_free free u block less))

pub both_bound : (free v u : ℕ) (block : List ℕ) → free ≤ v → free ≤ u → IsSmaller free block v u ↔ (place_of block v < place_of block u)
both_bound free v u block le more = (λ s. omega (arith, s, rank_bound free v block le, rank_bound free u block more), λ s. omega (arith, s, rank_bound free v block le, rank_bound free u block more))

pub less_test : (a b : ℕ) → a < b → nat_lt a b ≡ true
less_test a b less = grind (arith, nat_tests)
