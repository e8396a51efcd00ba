-- How long an order is, and old numbers from new ones.
use Rattle.std.specs.Prelude.{Contains, slice_index, ltb}
use Rattle.std.proofs.Common.{ℕ, zero, suc, ◌≡◌, ◌+◌, ◌-◌, ◌<◌, true, false, List, [], ◌∷◌, length, refl, sym, ap, ◌∙◌, subst, arith, inl, inr}
use Rattle.std.proofs.lemmas.List.{append-nil}
use Rattle.std.proofs.lemmas.Bool.Decides.{nat_tests}
use Rattle.lists.specs.Distinct.{IsDistinct}
use Rattle.tree_facts.proofs.Members.{contains_first, contains_later, contains_cases}
use Rattle.flat_form.specs.Orders.{place_of}
use Rattle.cube_facts.specs.Numbers.{FullOrderIsAsLong, old_number, OldNumberIsBack}
use Rattle.cube_facts.proofs.Places.{number_low, number_in, number_high, place_low, front_at}

-- the list without one of its items
record Without (xs : List ℕ) (v : ℕ) : Type 0 where
  rest : List ℕ
  distinct : IsDistinct rest
  shorter : length xs ≡ suc (length rest)
  there : (w : ℕ) → Contains rest w → Contains xs w × (¬ (w ≡ v))
  back : (w : ℕ) → Contains xs w → ¬ (w ≡ v) → Contains rest w

without : (xs : List ℕ) (v : ℕ) → IsDistinct xs → Contains xs v → Without xs v
without [] v distinct inside = absurd (omega (arith, inside.1))
without (x ∷ xs) v distinct inside = elim (contains_cases x v xs inside) [
  | inl e ↦ record {
    rest = xs;
    distinct = distinct.1;
    shorter = refl;
    there = λ w i. (contains_later x w xs i, λ same. distinct.0 (subst (Contains xs) (same ∙ sym e) i));
    back = λ w i differ. elim (contains_cases x w xs i) [ inl f ↦ absurd (differ (sym f ∙ e)) | inr j ↦ j ];
  }
  | inr later ↦
      let less = without xs v distinct.1 later in
      record {
        rest = x ∷ less.rest;
        distinct = (λ i. distinct.0 (less.there x i).0, less.distinct);
        shorter = ap suc less.shorter;
        there = λ w i. elim (contains_cases x w less.rest i) [
          | inl f ↦ (subst (Contains (x ∷ xs)) f (contains_first x xs), λ same. distinct.0 (subst (Contains xs) (sym same ∙ sym f) later))
          | inr j ↦ (contains_later x w xs (less.there w j).0, (less.there w j).1)
        ];
        back = λ w i differ. elim (contains_cases x w xs i) [
          | inl f ↦ subst (Contains (x ∷ less.rest)) f (contains_first x less.rest)
          | inr j ↦ contains_later x w less.rest (less.back w j differ)
        ];
      }
]

pub full_order_is_as_long : FullOrderIsAsLong
full_order_is_as_long free zero [] distinct all = refl
full_order_is_as_long free zero (x ∷ xs) distinct all = let o = (all x).0 (contains_first x xs) in absurd (omega (arith, o.0, o.1))
full_order_is_as_long free (suc count) order distinct all =
    let less = without order (free + count) distinct ((all (free + count)).1 (omega arith, omega arith)) in
    let shorter : length less.rest ≡ count = full_order_is_as_long free count less.rest less.distinct (λ v. (
      λ i. let p = less.there v i in let o = (all v).0 p.0 in let differ = p.1 in let a = o.0 in let b = o.1 in (a, grind arith),
      λ o. let a = o.0 in let b = o.1 in less.back v ((all v).1 (a, omega arith)) (λ e. omega arith),
    )) in
    omega (arith, less.shorter, shorter)

old_low : (free scope : ℕ) (order : List ℕ) (w : ℕ) → w < free → old_number free scope order w ≡ w
old_low free scope order w low = let t : ltb w free ≡ true = grind (arith, nat_tests) in rw t refl

old_in : (free scope : ℕ) (order : List ℕ) (k : ℕ) → k < length order → old_number free scope order (free + k) ≡ slice_index order k
old_in free scope order k low =
    let t : ltb (free + k) free ≡ false = grind (arith, nat_tests) in
    let s : ltb (free + k) (free + length order) ≡ true = grind (arith, nat_tests) in
    let e : free + k - free ≡ k = omega arith in
    rw (t, s, e) refl

old_high : (free scope : ℕ) (order : List ℕ) (k : ℕ) → old_number free scope order (free + length order + k) ≡ scope + k
old_high free scope order k =
    let t : ltb (free + length order + k) free ≡ false = grind (arith, nat_tests) in
    let s : ltb (free + length order + k) (free + length order) ≡ false = grind (arith, nat_tests) in
    let e : free + length order + k - (free + length order) ≡ k = omega arith in
    rw (t, s, e) refl

pub old_number_is_back : OldNumberIsBack
old_number_is_back free scope order v le (inl low) = ap (old_number free scope order) (number_low free scope order v low) ∙ old_low free scope order v low
old_number_is_back free scope order v le (inr (inl high)) =
    ap (old_number free scope order) (number_high free scope order v (omega arith) high) ∙ (old_high free scope order (v - scope) ∙ (omega arith))
old_number_is_back free scope order v le (inr (inr (a, b, inside))) =
    let low : place_of order v < length order = place_low order v inside in
    let at : slice_index order (place_of order v) ≡ v =
    subst (λ (xs : List ℕ). place_of xs v < length order → slice_index order (place_of xs v) ≡ v) (append-nil order) (front_at order [] v) low in
    ap (old_number free scope order) (number_in free scope order v a b) ∙ (old_in free scope order (place_of order v) low ∙ at)
